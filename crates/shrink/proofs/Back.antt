-- A block given back, as work; and what a change of one block leaves as it was.
use Rattle.std.proofs.Common.{◌≡◌, ℕ, true, List, Ok, Err, Result, ap, ◌∙◌, subst}
use Rattle.std.proofs.lemmas.Bool.{both_ways}
use Rattle.store.specs.declared.fault.Fault.{Fault}
use Rattle.store.specs.declared.fault.Refusal.{Refusal}
use Rattle.store.specs.declared.fault.Refusal.TheVariants.{Down}
use Rattle.store.specs.Meaning.{Meaning, Fell, count}
use Rattle.store.specs.Calls.{GiveDone, GiveFails, Give, Deep, Lost}
use Rattle.store.specs.Calls.GiveFails.{give_down, give_missing}
use Rattle.copies.specs.Work.{Work}
use Rattle.copies.proofs.Exits.{Kin}
use Rattle.nodes.specs.Places.{Form}
use Rattle.nodes.specs.Nodes.{Entry, Holds, Room}
use Rattle.held.specs.Held.{Step}

-- a granted block is refused only by 'down'
give_falls : {r : Refusal} {at b : ℕ} {m n : Meaning} → m.granted b ≡ true → GiveFails b r at m n → (r ≡ Down) × Fell m n
give_falls g (give_down e f) = (e, f)
give_falls g (give_missing e a f k) = absurd (both_ways _ f g)

give_lost : {m n : Meaning} {f : Fault} {b : ℕ} → m.granted b ≡ true → GiveFails b f.refusal f.block m n → f.depth ≡ m.shape.depth f.refusal (count m) → Lost m f n
give_lost {m} g w d =
    let q = give_falls g w in
    record {
      refusal = q.0;
      granted_then = count m;
      deep = d ∙ ap (λ r. m.shape.depth r (count m)) q.0;
      is_down = q.1.is_down;
      same_shape = q.1.same_shape;
      same_below = q.1.same_below;
    }

pub give_work : (m n : Meaning) (b : ℕ) (r : Result (Unit {0}) Fault) → Give b m r n → Deep m r → Work (λ z. z.granted b ≡ true) (λ z x y. GiveDone z b y) m r n
give_work m n b (Ok _) h d = λ g. h
give_work m n b (Err f) h d = λ g. give_lost g h d

pub kin_holds : {φ : Form} {b : ℕ} {xs : List Entry} {m n : Meaning} → Holds φ b xs m n → Kin m n
kin_holds h = record { shape = ap (λ z. z.shape) h.frame; below = ap (λ z. z.below) h.frame }

pub kin_step : {F G : List ℕ} {m n : Meaning} → Step m n F G → Kin m n
kin_step s = record { shape = s.same_shape; below = s.same_below }

pub kin_then : {l m n : Meaning} → Kin l m → Kin m n → Kin l n
kin_then a b = record { shape = b.shape ∙ a.shape; below = b.below ∙ a.below }

-- room in a block by another name of its number
pub room_at : (φ : Form) (b c : ℕ) (m : Meaning) → b ≡ c → Room φ b m → Room φ c m
room_at φ b c m e h = subst (λ z. Room φ z m) e h

-- a block given back, by another name of its number
pub give_at : (b c : ℕ) (m n : Meaning) (r : Result (Unit {0}) Fault) → b ≡ c → Give b m r n → Give c m r n
give_at b c m n r e h = subst (λ z. Give z m r n) e h
