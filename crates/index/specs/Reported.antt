-- What a report answers, and what it leaves in the lent keys and handles.
use Rattle.std.specs.Prelude.{◌≡◌, ℕ, ◌≤◌, List, length, take, Ok, Err, Result}
use Rattle.store.specs.Meaning.{Meaning}
use Rattle.plain.specs.Plain.{within, reports, over}
use Rattle.tree.specs.Tree.{Tree, content}
use Rattle.ask.specs.declared.report.Stopped.{Stopped}
use Rattle.held.specs.Held.{Kind}
use Rattle.index.specs.Open.{Open, Falls}
use Rattle.index.specs.declared.index.Index.{Index}

module _ {K S : Type 0} (κ : Kind K) (meaning : S → Meaning) (ready : S → Type 0) (low high : K) (ks : List K) (hs : List ℕ) (ks' : List K) (hs' : List ℕ) where
  -- what the plain list reports of the pairs of t, which the blocks still hold
  pub record Reported (t : Tree K) (i : Index K S) (n : ℕ) (j : Index K S) : Type 0 where
    pub told : reports κ.order low high (content K t) ks hs ≡ (Ok n, ks', hs')
    pub still : Open κ meaning ready j t
    pub same : meaning j.store ≡ meaning i.store

  -- the store said 'down' when so many pairs were written: the first from low to high, and no other place was
  pub record Halted (t : Tree K) (i : Index K S) (e : Stopped) (j : Index K S) : Type 0 where
    pub fell : Falls κ meaning ready i e.fault j
    pub few : e.written ≤ length (within κ.order low high (content K t))
    pub fits : e.written ≤ length ks
    pub keys : ks' ≡ over (λ p. p.key) (take e.written (within κ.order low high (content K t))) ks
    pub handles : hs' ≡ over (λ p. p.handle) (take e.written (within κ.order low high (content K t))) hs

  -- a report of an index whose blocks hold t, into as many keys as handles
  abbrev pub Reports : Index K S → Result ℕ Stopped → Index K S → Type 0
  Reports i (Ok n) j = (t : Tree K) → Open κ meaning ready i t → Reported t i n j
  Reports i (Err e) j = (t : Tree K) → Open κ meaning ready i t → Halted t i e j
