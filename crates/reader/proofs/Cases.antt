-- The ways of each function, for `search`.
use Prim.Native.Nat.{ℕ, ◌+◌, ◌-◌, ◌*◌, ◌<◌, ◌≤◌, min}
use mathlib.Core.Path.{◌≡◌, refl, sym, ◌∙◌}
use mathlib.Core.List.{List, [], ◌∷◌}
use native.Mathlib.Omega.{arith}
use native.Mathlib.Nat.{add-zero}
use lib.ListN.{length, get_or, drop, length-drop}
use lib.Seq.{get_or-drop}
use borrow.Author.Tests.{ne_eqb}
use Rattle.model.specs.declared.Entry.{Entry}
use Rattle.model.specs.declared.Entry.TheVariants.{Read, Write, Run, Refused}
use Rattle.model.specs.Log.{whole, records_of, record_known, record_entry, front_of, entry_of}

-- READING. The entry of a whole record
module _ (k h l b : ℕ) where
  pub entry_0 : (a : ℕ) → a ≡ h * 256 + l → k ≡ 0 → b ≡ 0 → Read a ≡ record_entry (whole k h l b)
  unfolding record_entry record_known
  entry_0 a e p z = rw (e, p, z)

  pub entry_1 : (a : ℕ) → a ≡ h * 256 + l → k ≡ 1 → Write a b ≡ record_entry (whole k h l b)
  unfolding record_entry record_known
  entry_1 a e p = rw (e, p)

  pub entry_2 : (a : ℕ) → a ≡ h * 256 + l → k ≡ 2 → b ≡ 0 → Run a ≡ record_entry (whole k h l b)
  unfolding record_entry record_known
  entry_2 a e p z = rw (e, p, z)

  pub ended_0 : k ≡ 0 → (b ≡ 0 → ⊥) → Refused ≡ record_entry (whole k h l b)
  unfolding record_entry record_known
  ended_0 p z = rw (p, ne_eqb b 0 z)

  pub ended_2 : k ≡ 2 → (b ≡ 0 → ⊥) → Refused ≡ record_entry (whole k h l b)
  unfolding record_entry record_known
  ended_2 p z = rw (p, ne_eqb b 0 z)

  pub unknown : (k ≡ 0 → ⊥) → (k ≡ 1 → ⊥) → (k ≡ 2 → ⊥) → Refused ≡ record_entry (whole k h l b)
  unfolding record_entry record_known
  unknown p q s = rw (ne_eqb k 0 p, ne_eqb k 1 q, ne_eqb k 2 s)

pub ruleset entry_cases = (entry_0, entry_1, entry_2, ended_0, ended_2, unknown)

-- what stands at the front: a cut record, a whole one
short_front : (d : List ℕ) → length d < 4 → entry_of (records_of d) ≡ Refused
unfolding records_of front_of entry_of record_entry
short_front [] q = refl
short_front (a ∷ []) q = refl
short_front (a ∷ b ∷ []) q = refl
short_front (a ∷ b ∷ c ∷ []) q = refl
short_front (a ∷ b ∷ c ∷ d ∷ r) q = absurd (omega arith)

long_front : (d : List ℕ) → 4 ≤ length d → entry_of (records_of d) ≡ record_entry (whole (get_or d 0 0) (get_or d 1 0) (get_or d 2 0) (get_or d 3 0))
unfolding records_of front_of entry_of
long_front [] p = absurd (omega arith)
long_front (a ∷ []) p = absurd (omega arith)
long_front (a ∷ b ∷ []) p = absurd (omega arith)
long_front (a ∷ b ∷ c ∷ []) p = absurd (omega arith)
long_front (a ∷ b ∷ c ∷ d ∷ r) p = refl

module _ (at : ℕ) (l : List ℕ) where
  pub cut : length l - at < 4 → (Refused ≡ entry_of (records_of (drop at l))) × (length l ≡ min (at + 4) (length l))
  cut h = (sym (short_front (drop at l) (simp length-drop h)), omega arith)

  pub stands : (r : Entry) → 4 ≤ length l - at → r ≡ record_entry (whole (get_or l at 0) (get_or l (at + 1) 0) (get_or l (at + 2) 0) (get_or l (at + 3) 0))
      → (r ≡ entry_of (records_of (drop at l))) × (at + 4 ≡ min (at + 4) (length l))
  stands r h e = (
    e ∙ sym (long_front (drop at l) (simp length-drop h) ∙ rw (get_or-drop at l 0 0, get_or-drop at l 1 0, get_or-drop at l 2 0, get_or-drop at l 3 0, add-zero at)),
    omega arith,
  )
