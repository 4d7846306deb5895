-- The ways of each function, for `search`.
use Prim.Native.Nat.{ℕ, ◌+◌, ◌-◌, ◌*◌, ◌/◌, ◌%◌, ◌<◌}
use mathlib.Core.Path.{◌≡◌, refl, ap, ◌∙◌}
use mathlib.Core.List.{List, [], ◌∷◌}
use native.Mathlib.Nat.{add-sub_cancel_left}
use lib.Dec.{eqb, eqb→eq, ltb, ltb→lt}
use lib.ListN.{get_or, take, drop}
use Rattle.model.specs.declared.Board.{Board}
use Rattle.model.specs.declared.Wiring.{Wiring}
use Rattle.model.specs.declared.Wiring.TheVariants.{Horizontal, Vertical, FirstPage, SecondPage, FourPages}
use Rattle.model.specs.Unit.{nametables_for, nametable_length}
use Rattle.address.proofs.Table.{at2}
use Rattle.model.specs.Address.{wiring_number, page_at, quarter_in}

-- nametable RAM by the wiring's number
twice : (w : Wiring) → 2048 + wiring_number w / 4 * 2048 ≡ nametables_for w
twice Horizontal = refl
twice Vertical = refl
twice FirstPage = refl
twice SecondPage = refl
twice FourPages = refl

pub length_1 : (d : Board) (w : Wiring) (n r : ℕ) → w ≡ d.wiring → n ≡ wiring_number w → r ≡ 2048 + n / 4 * 2048 → r ≡ nametable_length d
length_1 d w n r e f g = g ∙ ap (λ (k : ℕ). 2048 + k / 4 * 2048) f ∙ twice w ∙ ap nametables_for e

-- the table's rule, once over all entries
abbrev pub pages : List (List ℕ)
pages = (0 ∷ 0 ∷ 1 ∷ 1 ∷ []) ∷ (0 ∷ 1 ∷ 0 ∷ 1 ∷ []) ∷ (0 ∷ 0 ∷ 0 ∷ 0 ∷ []) ∷ (1 ∷ 1 ∷ 1 ∷ 1 ∷ []) ∷ (0 ∷ 1 ∷ 2 ∷ 3 ∷ []) ∷ []

pub page_1 : (w q : ℕ) → w < 5 → q < 4 → get_or (get_or pages w []) q 0 ≡ page_at w q
unfolding page_at
page_1 w q h k = eqb→eq _ _ (at2 4 (λ i j x. eqb x (page_at i j)) pages tt w q h k)

pub page_2 : (w q : ℕ) → w < 5 → q < 4 → get_or (get_or pages w []) q 0 < 4
page_2 w q h k = ltb→lt _ _ (at2 4 (λ i j x. ltb x 4) pages tt w q h k)

-- the page of a quarter
pub quarter_part_lem : (w : Wiring) (n : List ℕ) (q p : ℕ) (x : List ℕ) → p ≡ page_at (wiring_number w) (q % 4) → x ≡ take (p * 1024 + 1024 - p * 1024) (drop (p * 1024) n) → x ≡ quarter_in w n q
unfolding quarter_in
quarter_part_lem w n q p x h e = e ∙ ap (λ (k : ℕ). take k (drop (p * 1024) n)) (add-sub_cancel_left (p * 1024) 1024) ∙ rw h
