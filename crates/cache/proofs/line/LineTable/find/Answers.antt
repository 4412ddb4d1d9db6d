use Rattle.std.proofs.Common.{◌≡◌, rules, sym}
use Rattle.std.proofs.lemmas.Iterator.{IsFirst-from_position, YieldsList-from_slice}
use borrow.Author.Tests.{tests}
use Rattle.cache.specs.declared.line.Line.{Line}
use Rattle.cache.proofs.TableLines.{first_shown, finds}
use Rattle.cache.proofs.line.LineTable.find.Goals as goal

pub returns : goal.returns
returns c =
    let ls = c.args.self.now.lines.items in
    let b = c.args.block in
    finds ls b c.position.result
    (first_shown ls (λ v. v.block ≡ b) (λ v. v.block ≡ b → b ≡ 0) c.position.result (λ e. sym e)
    (IsFirst-from_position _ _ _ (λ (l : Line). l.block ≡ b) (λ (l : Line). l.block ≡ b → b ≡ 0) c.position.ensures.ran (YieldsList-from_slice ls cc) (λ x q k. search (rules, tests)) (λ x q k. search (rules, tests))))
