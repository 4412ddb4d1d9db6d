use Rattle.std.specs.Prelude.{◌≡◌, ℕ, ◌<◌, List, [], ◌∷◌, ◌++◌, length, slice_index, refl}
use Rattle.std.specs.declared.cmp.Ordering.TheVariants.{Equal}
use Rattle.std.proofs.Common.{ap, ◌∙◌, true≢false, arith}
use Rattle.std.specs.Ordering.{is_lt, is_gt, nat_cmp}
use Rattle.keys.specs.Documents.{packed, unpacked, word_at, bytes_of}
use Rattle.keys.specs.Orders.{Words}
use Rattle.keys.specs.Bytes.{word_back, bytes_back, gets_drop}
use Rattle.keys.specs.Ranks.{both_equal, rank_equal}
use Rattle.std.specs.Cmp.Lexicographic.{slice_cmp, lists_total}
use Rattle.std.specs.Cmp.{nat_cmp_total}
use Rattle.keys.specs.Documents.{order}
use Rattle.keys.specs.Orders.{Orderly}
use Rattle.keys.specs.Alike.{documents}
use Rattle.keys.specs.Totals.{orderly_by}

pub same_bytes : (xs ys : List ℕ) → slice_cmp nat_cmp xs ys ≡ Equal → xs ≡ ys
same_bytes [] [] e = refl
same_bytes [] (y ∷ ys) e = absurd (true≢false (ap is_lt e))
same_bytes (x ∷ xs) [] e = absurd (true≢false (ap is_gt e))
same_bytes (x ∷ xs) (y ∷ ys) e =
    let b = both_equal _ _ e in
    (λ i. rank_equal x y b.0 i ∷ same_bytes xs ys b.1 i)

pub documents_ordered : Orderly order
documents_ordered = orderly_by (lists_total nat_cmp_total) (λ x. x.bytes) (λ x y e. documents x y (same_bytes x.bytes y.bytes e))

pub forth_law : (ws : List ℕ) → length ws ≡ 4 → Words ws → packed (unpacked ws) ≡ ws
forth_law [] e a = absurd (omega arith)
forth_law (v ∷ []) e a = absurd (omega arith)
forth_law (v ∷ w ∷ []) e a = absurd (omega arith)
forth_law (v ∷ w ∷ x ∷ []) e a = absurd (omega arith)
forth_law (v ∷ w ∷ x ∷ y ∷ []) e a = λ i. word_back v a.0 i ∷ word_back w a.1.0 i ∷ word_back x a.1.1.0 i ∷ word_back y a.1.1.1.0 i ∷ []
forth_law (v ∷ w ∷ x ∷ y ∷ z ∷ zs) e a = absurd (omega arith)

pub back_law : (bs : List ℕ) → length bs ≡ 32 → ((k : ℕ) → slice_index bs k < 256) → bytes_of (word_at bs 0) ++ (bytes_of (word_at bs 8) ++ (bytes_of (word_at bs 16) ++ bytes_of (word_at bs 24))) ≡ bs
back_law bs e f = (λ i. bytes_back bs f 0 i ++ (bytes_back bs f 8 i ++ (bytes_back bs f 16 i ++ bytes_back bs f 24 i))) ∙ gets_drop bs 0 32 e
