-- Two systems of which the one follows the other: logs that are quiet for the one are quiet for the other, run as many lines, and end alike.
use mathlib.Core.Path.{◌≡◌, refl, sym, ap, ◌∙◌, subst}
use mathlib.Core.Bool.{Bool}
use mathlib.Core.List.{List, [], ◌∷◌}
use Prim.Native.Nat.{ℕ, ◌+◌, ◌≤◌}
use Rattle.model.specs.declared.Ppu.{Ppu}
use Rattle.model.specs.declared.Answer.{Answer}
use Rattle.model.specs.Unit.{State, state}
use Rattle.model.specs.Line.{lines_run}
use Rattle.model.specs.Calls.{Call}
use Rattle.model.specs.Reload.{System, end_of, total_of, Within, QuietLog}

within_same : (s t : State) → s.unit ≡ t.unit → Within s → Within t
within_same s t e = subst (λ (u : Ppu). Within (state u t.memory)) e

pub record Following {S : Type 0} (P Q : System S) (R : S → S → Type 0) : Type 0 where
  pub next : (c : Call) (s t : S) → R s t → R (P.next c s) (Q.next c t)
  pub reply : (c : Call) (s t : S) → R s t → P.reply c s ≡ Q.reply c t
  pub lends : (c : Call) (s t : S) → R s t → (j : ℕ) → (lines_run j (P.lends c s)).unit ≡ (lines_run j (Q.lends c t)).unit
  pub rests : (s t : S) → R s t → (P.rests s).unit ≡ (Q.rests t).unit

module _ {S : Type 0} (P Q : System S) (R : S → S → Type 0) (f : Following P Q R) where
  pub follow_ends : (cs : List Call) (s t : S) → R s t → R (end_of P cs s) (end_of Q cs t)
  unfolding end_of
  follow_ends [] s t r = r
  follow_ends (c ∷ cs) s t r = follow_ends cs (P.next c s) (Q.next c t) (f.next c s t r)

  pub follow_totals : (cs : List Call) (s t : S) → R s t → total_of P cs s ≡ total_of Q cs t
  unfolding total_of
  follow_totals [] s t r = refl
  follow_totals (c ∷ cs) s t r = λ i. (f.reply c s t r i).lines + follow_totals cs (P.next c s) (Q.next c t) (f.next c s t r) i

  pub follow_quiet : (shut : Call → Bool) (cs : List Call) (s t : S) → R s t → QuietLog P shut cs s → QuietLog Q shut cs t
  follow_quiet shut [] s t r q = within_same (P.rests s) (Q.rests t) (f.rests s t r) q
  follow_quiet shut (c ∷ cs) s t r q = (
    within_same (P.rests s) (Q.rests t) (f.rests s t r) q.0,
    record {
      throughout = λ j l.
          within_same (lines_run j (P.lends c s)) (lines_run j (Q.lends c t)) (f.lends c s t r j)
          (q.1.throughout j (subst (λ (a : Answer). j ≤ a.lines) (sym (f.reply c s t r)) l));
      nodata = λ d e. q.1.nodata d (ap (λ (a : Answer). a.number) (f.reply c s t r) ∙ e);
    },
    follow_quiet shut cs (P.next c s) (Q.next c t) (f.next c s t r) q.2,
  )
