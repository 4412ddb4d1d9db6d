-- What a question to the blocks tells of the index.
use Rattle.std.proofs.Common.{◌≡◌, ℕ, List, None, Ok, Err, Result, sym, ap, ◌∙◌, subst}
use Rattle.store.specs.Meaning.{Meaning}
use Rattle.store.specs.declared.fault.Fault.{Fault}
use Rattle.store.specs.Calls.{Leaves}
use Rattle.plain.specs.declared.pair.Pair.{Pair}
use Rattle.plain.specs.Plain.{reports}
use Rattle.tree.specs.Tree.{Tree, content}
use Rattle.ask.specs.declared.report.Stopped.{Stopped}
use Rattle.ask.specs.Reports.{Reports as BlockReports}
use Rattle.held.specs.Held.{Kind}
use Rattle.held.specs.Roots.{Asks, tree_of}
use Rattle.index.specs.declared.index.Index.{Index}
use Rattle.index.specs.Open.{SameHandle, Open, Queried}
use Rattle.index.specs.Reported.{Reports, Halted}
use Rattle.index.specs.Steps.{Remembers, Recalls}

module _ {K S : Type 0} (κ : Kind K) (meaning : S → Meaning) (ready : S → Type 0) where
  -- an index with the same handle and a store that means the same holds the same tree
  pub still_open : (i j : Index K S) (t : Tree K) → SameHandle i j → meaning j.store ≡ meaning i.store → ready j.store → j.fault ≡ None → Open κ meaning ready i t → Open κ meaning ready j t
  still_open i j t h e r f o = record {
    is_ready = r;
    is_up = ap (λ m. m.down) e ∙ o.is_up;
    no_fault = f;
    holds = rw (h.same_header, h.same_tree, e) o.holds;
  }

  -- a question asked of the blocks is one to the index
  pub queried : {A : Type 0} (value : List (Pair K) → A) (i j : Index K S) (r : Result A Fault)
      → (i.fault ≡ None → Leaves meaning ready (Asks κ i.tree.header.root value) i.store r j.store)
      → (i.fault ≡ None → Remembers r j.fault)
      → SameHandle i j
      → Queried κ meaning ready value i r j
  queried value i j (Ok a) asks keeps h = λ t o.
      let w = asks o.no_fault o.is_ready in
      let d = w.call o.holds.stands.sits in
      record {
        value_is = d.value_is ∙ ap (λ x. value (content K x)) o.holds.tree_is;
        still = still_open i j t h d.same w.ready (keeps o.no_fault) o;
        same = d.same;
      }
  queried value i j (Err f) asks keeps h = λ t o.
      let w = asks o.no_fault o.is_ready in
      let d = w.call o.holds.stands.sits in
      record { lost = d; remembered = (keeps o.no_fault).down d.refusal; is_ready = w.ready }

module _ {K S : Type 0} (κ : Kind K) (meaning : S → Meaning) (ready : S → Type 0) (low high : K) (ks : List K) (hs : List ℕ) (ks' : List K) (hs' : List ℕ) where
  -- a report of the blocks is one of the index
  pub reported : (i j : Index K S) (r : Result ℕ Stopped)
      → (i.fault ≡ None → Leaves meaning ready (BlockReports κ i.tree.header.root low high ks hs ks' hs') i.store r j.store)
      → (i.fault ≡ None → Recalls r j.fault)
      → SameHandle i j
      → Reports κ meaning ready low high ks hs ks' hs' i r j
  reported i j (Ok n) asks keeps h = λ t o.
      let w = asks o.no_fault o.is_ready in
      let d = w.call o.holds.stands.sits in
      record {
        told = ap (λ x. reports κ.order low high (content K x) ks hs) (sym o.holds.tree_is) ∙ d.told;
        still = still_open κ meaning ready i j t h d.same w.ready (keeps o.no_fault) o;
        same = d.same;
      }
  reported i j (Err e) asks keeps h = λ t o.
      let w = asks o.no_fault o.is_ready in
      let d = w.call o.holds.stands.sits in
      let halted : Halted κ meaning ready low high ks hs ks' hs' (tree_of κ (meaning i.store).words i.tree.header) i e j = record {
        fell = record { lost = d.lost; remembered = keeps o.no_fault d.lost.refusal; is_ready = w.ready };
        few = d.few;
        fits = d.fits;
        keys = d.keys;
        handles = d.handles;
      } in
      subst (λ x. Halted κ meaning ready low high ks hs ks' hs' x i e j) o.holds.tree_is halted
