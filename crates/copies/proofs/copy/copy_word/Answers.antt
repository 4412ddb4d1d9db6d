use Rattle.store.specs.Meaning.{with_at}
use Rattle.copies.specs.Blocks.{Copyable, Pasted, Word, Edited}
use Rattle.copies.proofs.Exits.{kin_same, set_work, work_on}
use Rattle.copies.proofs.Copies.{to_word, word_copied}
use Rattle.copies.proofs.copy.copy_word.Goals as goal

pub returns : goal.returns
returns g c h =
    let from = c.args.from in
    let to = c.args.to in
    let x = c.in_ok-word.word in
    let r = c.in_ok-word.ensures.keeps h in
    let e = c.set.ensures.keeps r.ready in
    record {
      call = work_on (Copyable from to 1) (Word to.block to.at) (Pasted from to 1) (Edited to.block (λ β. with_at β to.at x)) (g.S.Store.meaning c.args.store.now) _ _ _
          (to_word from to _ _ r.call.same)
          (λ _. kin_same r.call.same)
          (λ _ _ y. word_copied from to _ _ _ x r.call y)
          (set_work _ _ _ _ _ _ e.call e.deep);
      ready = e.ready;
    }
