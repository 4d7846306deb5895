-- Text stored in the output: bytes one after another, digits, and each answer's line, for `search`.
use Prim.Native.Nat.{ℕ, suc, ◌+◌, ◌/◌, ◌%◌, ◌<◌, ◌≤◌}
use mathlib.Core.Path.{◌≡◌, sym, ◌∙◌}
use mathlib.Core.Bool.{Bool, true, false}
use mathlib.Core.List.{List, [], ◌∷◌, ◌++◌, append_assoc}
use mathlib.Core.Logic.{◌⊎◌, inl, inr}
use native.Mathlib.Omega.{arith}
use native.Mathlib.Nat.{add-zero, add-suc, suc-add}
use lib.ListN.{length, set, take, drop, length-append}
use borrow.Rule.Slice.PartMut.{put_mid}
use lib.Seq.{sets, sets-eq, drop-drop}
use borrow.Author.Tests.{ne_eqb, lt-ltb, le-ltb}
use Rattle.model.specs.declared.Access.{Access}
use Rattle.model.specs.declared.Answer.{Answer}
use Rattle.model.specs.declared.Entry.{Entry}
use Rattle.model.specs.declared.Entry.TheVariants.{Read, Write, Run, Refused}
use Rattle.model.specs.Record.{bit_byte}
use Rattle.model.specs.Log.{hex_digit, decimal, read_text, run_text, refused_text, entry_done, entry_text}
use Rattle.answers.specs.Printable.{Printable}

-- STORES: two texts, the second behind the first
pub sets_append : (s t l : List ℕ) (i : ℕ) → sets l i (s ++ t) ≡ sets (sets l i s) (i + length s) t
sets_append [] t l i = rw (add-zero i)
sets_append (a ∷ s) t l i = rw (add-suc i (length s), ← suc-add i (length s)) (sets_append s t (set l i a) (suc i))

pub put_at : (t l : List ℕ) (at k : ℕ) (v : List ℕ) → at + length t ≤ length l → k ≡ length t → v ≡ t → put_mid at k l v ≡ sets l at t
put_at t l at k v h e f = rw (f, e, sets-eq t l at h, drop-drop (length t) at l) (sym (append_assoc (take at l) t (drop (at + length t) l)))

-- what is stored is another text, spelled
pub spelled : (t u o l : List ℕ) (at r : ℕ) → t ≡ u → (o ≡ sets l at t) × (r ≡ at + length t) → (o ≡ sets l at u) × (r ≡ at + length u)
spelled t u o l at r e h = rw e at h

-- DIGITS
pub read_digits : (b x y : ℕ) → x ≡ hex_digit (b / 16) → y ≡ hex_digit (b % 16) → x ∷ y ∷ 10 ∷ [] ≡ read_text b
unfolding read_text
read_digits b x y e f = rw (e, f)

module _ (n : ℕ) where
  pub decimal_1 : (z : ℕ) → n < 10 → z ≡ 48 + n % 10 → z ∷ [] ≡ decimal n
  unfolding decimal
  decimal_1 z h e = let d : z ≡ 48 + n = omega arith in rw (lt-ltb n 10 h, d)

  pub decimal_2 : (y z : ℕ) → 10 ≤ n → n < 100 → y ≡ 48 + n / 10 % 10 → z ≡ 48 + n % 10 → y ∷ z ∷ [] ≡ decimal n
  unfolding decimal
  decimal_2 y z h k e f = let d : y ≡ 48 + n / 10 = omega arith in rw (le-ltb n 10 h, lt-ltb n 100 k, d, f)

  pub decimal_3 : (x y z : ℕ) → 10 ≤ n → 100 ≤ n → x ≡ 48 + n / 100 → y ≡ 48 + n / 10 % 10 → z ≡ 48 + n % 10 → x ∷ y ∷ z ∷ [] ≡ decimal n
  unfolding decimal
  decimal_3 x y z h k e f g = rw (le-ltb n 10 h, le-ltb n 100 k, e, f, g)

-- LINES. "line N nmi B"
module _ (n : ℕ) (p : Bool) (l₁ l₂ l₃ l : List ℕ) (at a b : ℕ) where
  abbrev pub nmi_tail : ℕ → List ℕ
  nmi_tail d = 32 ∷ 110 ∷ 109 ∷ 105 ∷ 32 ∷ d ∷ 10 ∷ []

  run_parts : l₁ ≡ sets l at (108 ∷ 105 ∷ 110 ∷ 101 ∷ 32 ∷ []) → a ≡ at + 5 → l₂ ≡ sets l₁ a (decimal n) → b ≡ a + length (decimal n)
      → l₃ ≡ sets l₂ b (nmi_tail (48 + bit_byte p)) → l₃ ≡ sets l at (run_text n p)
  unfolding run_text
  run_parts e f g h i =
      i ∙ rw (g, h, ← sets_append (decimal n) (nmi_tail (48 + bit_byte p)) l₁ a, e, f)
      (sym (sets_append (108 ∷ 105 ∷ 110 ∷ 101 ∷ 32 ∷ []) (decimal n ++ nmi_tail (48 + bit_byte p)) l at))

  pub run_1 : p ≡ true → l₁ ≡ sets l at (108 ∷ 105 ∷ 110 ∷ 101 ∷ 32 ∷ []) → a ≡ at + 5 → l₂ ≡ sets l₁ a (decimal n) → b ≡ a + length (decimal n)
      → l₃ ≡ sets l₂ b (nmi_tail 49) → l₃ ≡ sets l at (run_text n p)
  run_1 z e f g h i = run_parts e f g h (rw z i)

  pub run_2 : p ≡ false → l₁ ≡ sets l at (108 ∷ 105 ∷ 110 ∷ 101 ∷ 32 ∷ []) → a ≡ at + 5 → l₂ ≡ sets l₁ a (decimal n) → b ≡ a + length (decimal n)
      → l₃ ≡ sets l₂ b (nmi_tail 48) → l₃ ≡ sets l at (run_text n p)
  run_2 z e f g h i = run_parts e f g h (rw z i)

pub run_place : (n : ℕ) (p : Bool) (at a b r : ℕ) → a ≡ at + 5 → b ≡ a + length (decimal n) → r ≡ b + 7 → r ≡ at + length (run_text n p)
unfolding run_text
run_place n p at a b r e f g = simp length-append (omega arith)

pub ruleset run_cases = (run_1, run_2, run_place)

-- "refused N"
module _ (n : ℕ) (l₁ l₂ l₃ l : List ℕ) (at a b : ℕ) where
  pub refused_text_lem : l₁ ≡ sets l at (114 ∷ 101 ∷ 102 ∷ 117 ∷ 115 ∷ 101 ∷ 100 ∷ 32 ∷ []) → a ≡ at + 8 → l₂ ≡ sets l₁ a (decimal n)
      → b ≡ a + length (decimal n) → l₃ ≡ sets l₂ b (10 ∷ []) → l₃ ≡ sets l at (refused_text n)
  unfolding refused_text
  refused_text_lem e f g h i =
      i ∙ rw (g, h, ← sets_append (decimal n) (10 ∷ []) l₁ a, e, f)
      (sym (sets_append (114 ∷ 101 ∷ 102 ∷ 117 ∷ 115 ∷ 101 ∷ 100 ∷ 32 ∷ []) (decimal n ++ (10 ∷ [])) l at))

pub refused_place : (n at a b r : ℕ) → a ≡ at + 8 → b ≡ a + length (decimal n) → r ≡ b + 1 → r ≡ at + length (refused_text n)
unfolding refused_text
refused_place n at a b r e f g = simp length-append (omega arith)

pub ruleset refused_cases = (refused_text_lem, refused_place)

-- THE TEXT OF AN ANSWER
pub printed : (e : Entry) (x : Access) (k : ℕ) → e ≡ Run k → Printable e x → x.answer.number ≡ 0 → x.unit.scanline < 1000
unfolding Printable
printed e x k p h = rw p at h

module _ (e : Entry) (x : Answer) (n : ℕ) where
  pub text_refused : (x.number ≡ 0 → ⊥) → refused_text x.number ≡ entry_text e x n
  unfolding entry_text
  text_refused h = rw (ne_eqb x.number 0 h)

  module _ (h : x.number ≡ 0) where
    pub text_read : (a : ℕ) → e ≡ Read a → read_text x.byte ≡ entry_text e x n
    unfolding entry_text entry_done
    text_read a k = rw (h, k)

    pub text_run : (a : ℕ) → e ≡ Run a → run_text n x.nmi ≡ entry_text e x n
    unfolding entry_text entry_done
    text_run a k = rw (h, k)

    pub text_none : ((a : ℕ) × (b : ℕ) × (e ≡ Write a b)) ⊎ (e ≡ Refused) → [] ≡ entry_text e x n
    unfolding entry_text entry_done
    text_none (inl k) = rw (h, k.2)
    text_none (inr k) = rw (h, k)
