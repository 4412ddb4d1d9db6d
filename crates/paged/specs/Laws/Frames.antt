-- Words scattered over frames stand each in a place of its own.
use Rattle.std.specs.Prelude.{◌≡◌, ℕ, ◌*◌, ◌/◌, ◌<◌, ◌≤◌, List, length, Err, slice_index_or}
use Rattle.std.proofs.Common.{refl, subst, arith}
use Rattle.store.specs.declared.fault.Unmade.{Unmade}
use Rattle.store.specs.declared.fault.Unmade.TheVariants.{Refused, NoMemory}
use Rattle.store.specs.declared.fault.Refused.{Refused as Refusal}
use Rattle.store.specs.Meaning.{Sound}
use Rattle.stores.specs.declared.lent.LentStore.{LentStore}
use Rattle.stores.specs.declared.lent.Runs.{Runs}
use Rattle.stores.specs.Table.{in_row}
use Rattle.stores.specs.Opened.{means, StillMeans}
use Rattle.stores.specs.Laws.Laid.{Lies, laid_sound}
use Rattle.stores.specs.Plan.{Suits}
use Rattle.stores.specs.Laws.Plans.{Lawful}
use Rattle.stores.specs.Laws.Tables.{block_end, row_apart, most_fits}
use Rattle.paged.specs.declared.paged.Frames.{Frames}
use Rattle.paged.specs.Frames.{frames_of, paged_at, paged, Apt, Awry}
use Rattle.paged.specs.Opened.{FramesFit, Misfits, Because, frames_plan}
use Rattle.paged.specs.Opened.Misfits.{no_width, no_frames}
use Rattle.paged.specs.Frames.Awry.{outside, twice}

-- no map is both
pub not_both : {map : List ℕ} {n frames : ℕ} → Apt map n frames → Awry map n frames → ⊥
not_both f (outside i h l) = omega (arith, f.inside i h)
not_both f (twice i j l h e) = omega (arith, f.once i j (omega arith) h e)

module _ {w c g : ℕ} {map marks ws : List ℕ} (f : FramesFit w c g map marks ws) where
  -- the map's entry for a place of a block is among those that were checked
  entry_below : (b p : ℕ) → 1 ≤ b → b ≤ c → p < w → in_row (frames_of w) b (p / 64) < c * frames_of w
  entry_below b p l h k = omega (arith, block_end (frames_of w) b c l h)

  apart : (a b i j : ℕ) → 1 ≤ a → a ≤ c → 1 ≤ b → b ≤ c → i < w → j < w → paged_at w map a i ≡ paged_at w map b j → (a ≡ b) × (i ≡ j)
  apart a b i j la ha lb hb hi hj e =
      let x = slice_index_or map (in_row (frames_of w) a (i / 64)) 0 in
      let y = slice_index_or map (in_row (frames_of w) b (j / 64)) 0 in
      let same : x ≡ y = omega arith in
      let q = f.apt.once (in_row (frames_of w) a (i / 64)) (in_row (frames_of w) b (j / 64)) (entry_below a i la ha hi) (entry_below b j lb hb hj) same in
      let r = row_apart (frames_of w) a b (i / 64) (j / 64) la lb (omega arith) (omega arith) q in
      (r.0, omega (arith, r.1))

  -- what a paged store keeps
  pub frames_lie : Lies (paged_at w map) w c g marks ws
  frames_lie =
      let r = most_fits (frames_of w) c (length marks) (length map) f.whole in
      record {
        wide = f.wide;
        narrow = f.narrow;
        few = r.0;
        marked = r.1;
        inside = λ b p l h k. omega (arith, f.apt.inside (in_row (frames_of w) b (p / 64)) (entry_below b p l h k));
        apart = apart;
        counted = f.counted;
      }

  -- a paged store that keeps its state means a sound store
  pub frames_sound : Sound (paged w c map marks ws)
  frames_sound = laid_sound frames_lie

-- of runs that suit nothing but want of memory is told
only_memory : (map : List ℕ) {w marks words c : ℕ} (e : Unmade) → Suits (frames_plan map) w marks words c → Because w map marks words e → e ≡ NoMemory
only_memory map NoMemory s b = refl
only_memory map {w} {marks} {words} {c} (Refused x) s b = absurd (never b.1)
  where
    never : Misfits w map marks words → ⊥
    never (no_width h) = let l = h s.wide in omega (arith, s.narrow)
    never (no_frames a) = not_both (subst (λ k. Apt map (k * frames_of w) (words / 64)) s.whole s.apt) a

-- the laws of frames
pub frames_lawful : (map : List ℕ) → Lawful (frames_plan map)
frames_lawful map = record { lies = λ f. frames_lie f; spared = λ s b. only_memory map _ s b }

-- what a store over frames means
pub paged_means : (s : LentStore Frames) → means (λ f. frames_plan f.map.now) s ≡ paged s.width s.grants.capacity s.layout.map.now s.grants.marks.now s.words.now
paged_means s = refl

-- only want of memory refuses such a store when it is opened again
pub paged_reopens : (s : LentStore Frames) (u : Refusal Unmade (Runs Frames)) → StillMeans (λ f. frames_plan f.map.now) s (Err u) → u.cause ≡ NoMemory
paged_reopens s u h = h.cause
