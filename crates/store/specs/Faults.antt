-- Refusals by number, and faults by layer.
use Rattle.std.specs.Prelude.{ℕ, ◌+◌, ◌-◌, ◌^◌, min, List, ◌++◌, codes, decimal}
use Rattle.store.specs.declared.fault.Fault.{Fault}
use Rattle.store.specs.declared.fault.Refusal.{Refusal}
use Rattle.store.specs.declared.fault.Refusal.TheVariants.{Down, Damaged, Present, Absent, Full, NoRoom, Uneven, NotGranted, Outside, Misfit}

-- each refusal's number
abbrev pub number_of : Refusal → ℕ
number_of Down = 1
number_of Damaged = 2
number_of Present = 3
number_of Absent = 4
number_of Full = 5
number_of NoRoom = 6
number_of Uneven = 7
number_of NotGranted = 8
number_of Outside = 9
number_of Misfit = 10

-- each refusal's word
abbrev pub word_of : Refusal → List ℕ
word_of Down = codes "down"
word_of Damaged = codes "damaged"
word_of Present = codes "present"
word_of Absent = codes "absent"
word_of Full = codes "full"
word_of NoRoom = codes "no room"
word_of Uneven = codes "uneven"
word_of NotGranted = codes "not granted"
word_of Outside = codes "outside"
word_of Misfit = codes "misfit"

-- a refusal of the store that was called
abbrev pub own_fault : Refusal → ℕ → Fault
own_fault r b = record { refusal = r; block = b; depth = 1 }

-- one layer more; the largest depth stays
abbrev pub one_deeper : ℕ → ℕ
one_deeper d = min (d + 1) (2 ^ 64 - 1)

-- the same fault, seen from one layer higher
abbrev pub deeper : Fault → Fault
deeper f = record { refusal = f.refusal; block = f.block; depth = one_deeper f.depth }

-- a fault in words: number, the refusal's word, block, and how far down
abbrev pub in_words : Fault → List ℕ
in_words f = codes "refused with " ++ (decimal (number_of f.refusal) ++ (codes " (" ++ (word_of f.refusal ++ (codes "), block " ++ (decimal f.block ++ (codes ", " ++ (decimal f.depth ++ codes " layers down")))))))
