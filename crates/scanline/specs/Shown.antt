-- What a run comes to, and the steps of the drawing of a line: the background as shown, the sprites over it, the flags.
use Rattle.std.specs.Prelude.{◌≡◌, Bool, false, ◌&&◌, List, ℕ, ltb, get_or}
use Rattle.model.specs.declared.Ppu.{Ppu}
use Rattle.model.specs.declared.Board.{Board}
use Rattle.model.specs.Unit.{State, unit, line_length}
use Rattle.model.specs.Background.{background_shown}
use Rattle.model.specs.Sprites.{sprite_on, sprite_zero_on, sprite_shown}
use Rattle.model.specs.Line.{tab, any_of, merged, background_on, one_line, lines_run, meets_reason, line_count, reason_met}

-- a line of a run from s: the state after it, and whether it meets the reason to stop
pub record IsLine (why : ℕ) (s t : State) (met : Bool) : Type 0 where
  pub after : t ≡ one_line s
  pub reason : met ≡ meets_reason why s.unit (one_line s).unit

-- a run of at most n lines from s, by its reason to stop: the lines it runs, whether the reason is met, and the state after it
pub record IsRun (why n : ℕ) (s : State) (lines : ℕ) (met : Bool) (t : State) : Type 0 where
  pub count : lines ≡ line_count why n s
  pub reason : met ≡ reason_met why n s
  pub after : t ≡ lines_run (line_count why n s) s

-- a unit of the parts that a line's pixels and flags depend on, the rest zero
abbrev pub seen : ℕ → ℕ → ℕ → ℕ → ℕ → Board → Ppu
seen c m v x n d = unit c m 0 0 v 0 x false 0 0 n false d

-- the background in column p, as the mask shows it
unfoldable pub back_of : Ppu → List ℕ → List ℕ → List ℕ → ℕ → ℕ
back_of u l r n p = background_shown u.mask p (background_on u l r n p)

-- the winning sprite's pixel, and sprite 0's, as the mask shows them
unfoldable pub over_of : Ppu → List ℕ → List ℕ → List ℕ → ℕ → ℕ
over_of u l r o p = sprite_shown u.mask p (sprite_on u.control l r o u.scanline p)

unfoldable pub zero_of : Ppu → List ℕ → List ℕ → List ℕ → ℕ → ℕ
zero_of u l r o p = sprite_shown u.mask p (sprite_zero_on u.control l r o u.scanline p)

-- a line b with the sprites over it, and its hit below column 255
unfoldable pub over_line : Ppu → List ℕ → List ℕ → List ℕ → List ℕ → List ℕ
over_line u l r o b = tab (λ (p : ℕ). merged (get_or b p 0) (over_of u l r o p)) line_length

unfoldable pub hit_line : Ppu → List ℕ → List ℕ → List ℕ → List ℕ → Bool
hit_line u l r o b = any_of (λ (p : ℕ). ltb 0 (get_or b p 0) && ltb 0 (zero_of u l r o p)) 255
