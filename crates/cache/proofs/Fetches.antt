-- A word looked up in the lines, or brought up from below.
use Rattle.std.proofs.Common.{◌≡◌, ℕ, ◌<◌, Bool, false, List, None, Ok, Err, Result, sym, ap, ◌∙◌, subst, arith}
use Rattle.store.specs.declared.fault.Fault.{Fault}
use Rattle.store.specs.Layers.{raised}
use Rattle.store.specs.Meaning.{Meaning}
use Rattle.store.specs.Faults.{one_deeper}
use Rattle.store.specs.Calls.{Get, Deep}
use Rattle.store.specs.Calls.WordFails.{word_down}
use Rattle.cache.specs.Lines.{View, Hits, Noted}
use Rattle.cache.specs.Cache.{cached, Held}
use Rattle.cache.specs.Steps.{Falls, EvictDone, Loadable, Missing, Brought, LoadDone, Fetched, FetchFails}
use Rattle.cache.specs.Laws.Overlays.{not_zero}
use Rattle.cache.proofs.Raises.{word_cached, held_word, held_same}
use Rattle.cache.proofs.Exits.{was_ok, was_err}
use Rattle.cache.proofs.Helds.{not_lost}

-- after line i was freed, block b can be read into it
pub then_loadable : {m n : Meaning} {vs ws : List View} (b i : ℕ) → m.granted 0 ≡ false → Missing b m vs → EvictDone i m vs n ws → Loadable b i n ws
then_loadable {m} b i g0 p d = record {
  up = ap (λ k. k.down) d.same ∙ p.up;
  granted = ap (λ k. k.granted b) d.same ∙ p.granted;
  absent = d.absent b (λ e. not_zero m.granted b g0 p.granted e) p.absent;
  none = d.none;
}

-- freed and loaded
pub loaded_on : {l m n : Meaning} {us vs ws : List View} {b i : ℕ} → cached vs m ≡ cached us l → LoadDone b i m vs n ws → LoadDone b i l us n ws
loaded_on e d = record { same = d.same ∙ e; block = d.block }

-- freed, and then the store fell
pub falls_on : {k l n : Meaning} {f : Fault} → l ≡ k → Falls f l n → Falls f k n
falls_on {n = n} {f} e q = subst (λ x. Falls f x n) e q

-- the first read below failed
pub first_err : {m n : Meaning} {lost lost' : Bool} {vs : List View} {x : Fault} (b place : ℕ) (r : Result ℕ Fault)
    → Err x ≡ raised r → Get b place m r n → Deep m r → Noted lost r lost' → Held m lost vs
    → FetchFails b place x m vs n vs × Held n lost' vs
first_err {m} {n} {lost} {lost'} {vs} b place r e c d t h =
    let p = was_err (λ a. Get b place m a n × Deep m a × Noted lost a lost') r e (c, d, t) in
    subst (λ y. FetchFails b place y m vs n vs × Held n lost' vs) p.1
    (record { call = word_cached vs p.2.0; deep = ap one_deeper p.2.1 }, held_word p.0 p.2.2 h p.2.0)

-- the first read below went well: the store is up and has the word, and no line has the block
pub record First (m : Meaning) (lost : Bool) (vs : List View) (b place : ℕ) (n : Meaning) : Type 0 where
  pub same : n ≡ m
  pub within : place < m.shape.width
  pub missing : Missing b n vs
  pub held : Held n lost vs

pub first_ok : {m n : Meaning} {lost lost' : Bool} {vs : List View} {x : ℕ} (b place : ℕ) (r : Result ℕ Fault)
    → m.granted 0 ≡ false → Ok x ≡ raised r → Get b place m r n → Noted lost r lost' → Held m lost vs → Hits lost vs b place None
    → First m lost' vs b place n
first_ok {m} {n} {lost} {lost'} {vs} b place r g0 e c t h k =
    let p = was_ok (λ a. Get b place m a n × Noted lost a lost') r e (c, t) in
    let d = p.0 in
    let b0 = not_zero m.granted b g0 d.granted in
    record {
      same = d.same;
      within = d.within;
      missing = record {
        up = ap (λ x. x.down) d.same ∙ d.was_up;
        granted = ap (λ x. x.granted b) d.same ∙ d.granted;
        absent = λ j q.
            let long = (h.fits j (λ z. b0 (sym q ∙ z))).whole.wide in
            let short = k (not_lost h d.was_up) b0 j q in
            let in_it = d.within in
            omega arith;
      };
      held = held_same p.1 d.same h;
    }

-- brought up after the first read
pub fetched : {m k n : Meaning} {lost lost' : Bool} {vs ws : List View} (b place : ℕ) (r : Result ℕ Fault) → k.granted 0 ≡ false → First m lost vs b place k → Brought b r k vs n ws → Held n lost' ws → Fetched b place r m vs n ws
fetched {m} {k} {n} {vs = vs} {ws} b place (Ok i) g0 f l h =
    let same = l.same ∙ ap (cached vs) f.same in
    let wide = ap (λ x. x.shape.width) same in
    let b0 = not_zero k.granted b g0 f.missing.granted in
    let long = (h.fits i (λ q. b0 (sym l.block ∙ q))).whole.wide in
    let in_it = f.within in
    record {
      up = sym (ap (λ x. x.down) f.same) ∙ f.missing.up;
      same = same;
      some = b0;
      block = l.block;
      within = omega arith;
    }
fetched {m} {k} {n} {vs = vs} {ws} b place (Err x) g0 f l h =
    let g = falls_on (ap (cached vs) f.same) l in
    record { call = word_down g.refusal g.fell; deep = g.deep }
