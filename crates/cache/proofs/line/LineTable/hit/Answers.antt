use Rattle.std.proofs.Common.{◌≡◌, true, false, rules}
use Rattle.std.proofs.lemmas.Iterator.{IsFirst-from_position, YieldsList-from_slice}
use borrow.Author.Tests.{tests}
use Rattle.cache.specs.Lines.{view, has}
use Rattle.cache.specs.declared.line.Line.{Line}
use Rattle.cache.proofs.TableLines.{first_shown, blank_has, hits}
use Rattle.cache.proofs.line.LineTable.hit.Goals as goal

pub returns : goal.returns
returns c =
    let ls = c.args.self.now.lines.items in
    let b = c.args.block in
    let place = c.args.place in
    hits ls _ b place c.position.result c.if-self.false c.if-block-eq0.false
    (first_shown ls (λ v. has v b place ≡ true) (λ v. has v b place ≡ false) c.position.result (blank_has b place)
    (IsFirst-from_position _ _ _ (λ (l : Line). has (view l) b place ≡ true) (λ (l : Line). has (view l) b place ≡ false) c.position.ensures.ran (YieldsList-from_slice ls cc) (λ x q k. search (rules, tests)) (λ x q k. search (rules, tests))))
