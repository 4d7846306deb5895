-- What every call keeps, of any kind, on any line, refused or not: a well-formed unit stays well formed, the board stays, and so does the length of
-- each memory.
use mathlib.Core.Path.{◌≡◌, refl, sym, ◌∙◌, subst}
use mathlib.Core.Bool.{Bool, true, false, cond, ◌&&◌}
use mathlib.Core.List.{List, [], ◌∷◌}
use Prim.Native.Nat.{ℕ, zero, suc, ◌+◌, ◌%◌, ◌<◌}
use native.Mathlib.Omega.{arith}
use native.Mathlib.Nat.{mod-eq_of_lt}
use lib.Dec.{T, ltb, eqb, eqb→eq}
use lib.ListN.{length, set, length-set}
use borrow.Author.Tests.{ltb-true, eqb-true, eqb-false}
use Rattle.model.specs.declared.Ppu.{Ppu}
use Rattle.model.specs.declared.Board.{Board}
use Rattle.model.specs.declared.Place.{Place}
use Rattle.model.specs.declared.Place.TheVariants.{Pattern, Nametable, Palette}
use Rattle.model.specs.Unit.{Cells, Memory, Lengths, State, state, line_length, colours_length, fresh, last_line, is_well_formed, is_drawing, is_rendering, drops_oam}
use Rattle.model.specs.Address.{stored, place_of}
use Rattle.model.specs.Ports.{wrote_unit, wrote_memory, wrote_oam_bytes, wrote_video, dma_oam}
use Rattle.model.specs.Scroll.{row_down}
use Rattle.model.specs.Line.{marked, status_of, drawn_unit, drawn_line, idle_line, vblank_line, pre_render_line, blank_unit, one_line, lines_run, line_count}
use Rattle.model.specs.Calls.{Lent, own, other, Call, read_call, write_call, dma_call, run_call, search_call, Outcome, outcome, refusal, long_for, line_long, request_ok, in_range, blocked, order, refusal_of, read_done, write_done, dma_done, run_done, search_done, done, gate, on_lent, lent_of, lent_memory, own_memory, call}
use Rattle.model.proofs.Tests.{cond_both, and_l, and_r}
use Rattle.model.proofs.Colours.{coloured_long}
use Rattle.model.proofs.Line.{picture_long, line_cells, lines_board, run_reports}
use Rattle.model.proofs.Kept.{Good, good, well, Nums, Kept, kept_refl, kept_read, kept_write, kept_dma}
use Rattle.model.proofs.Scroll.{down_lt, side_lt}

-- ACCEPTED CALLS
pub record Accepted (c : Call) (s : State) : Type 0 where
  pub asked : request_ok c ≡ true
  pub long : long_for c s.unit s.memory ≡ true
  pub well : is_well_formed s.unit ≡ true
  pub ranged : in_range c ≡ true
  pub free : is_drawing s.unit && blocked c ≡ false

order_zero : (k a b c d : Bool) → order k a b c d ≡ 0 → (k ≡ true) × (a ≡ true) × (b ≡ true) × (c ≡ true) × (d ≡ false)
unfolding order
order_zero true true true true false e = (refl, refl, refl, refl, refl)
order_zero true true true true true e = absurd (omega arith)
order_zero true true true false d e = absurd (omega arith)
order_zero true true false c d e = absurd (omega arith)
order_zero true false b c d e = absurd (omega arith)
order_zero false a b c d e = absurd (omega arith)

pub accepted : (c : Call) (s : State) → refusal_of c s ≡ 0 → Accepted c s
unfolding refusal_of
accepted c s e =
    let p = order_zero (request_ok c) (is_well_formed s.unit) (long_for c s.unit s.memory) (in_range c) (is_drawing s.unit && blocked c) e in
    record { asked = p.0; long = p.2; well = p.1; ranged = p.3; free = p.4 }

-- what an accepted call comes to has it, and a refused one: every call has it
pub by_gate : (P : Outcome → Type 0) (c : Call) (s : State) → (Accepted c s → P (done c s)) → ((k : ℕ) → P (outcome (refusal (suc k)) s)) → P (on_lent c s)
unfolding on_lent
by_gate P c s f h = go (refusal_of c s) (accepted c s)
  where
    go : (r : ℕ) → (r ≡ 0 → Accepted c s) → P (gate r (done c s) s)
    go zero a = f (a refl)
    go (suc k) a = h k

on_gate : (P : State → Type 0) (c : Call) (s : State) → (Accepted c s → P (done c s).after) → P s → P (on_lent c s).after
on_gate P c s f h = by_gate (λ (o : Outcome). P o.after) c s f (λ k. h)

pub good_of : (u : Ppu) → is_well_formed u ≡ true → Good u
good_of u e = good u (subst T (sym e) tt)

-- THE UNIT
pub record Sound (u u' : Ppu) : Type 0 where
  pub good : Good u'
  pub board : u'.board ≡ u.board

sound : {n : ℕ} {u u' : Ppu} → Kept n u u' → Sound u u'
sound k = record { good = k.nums.good; board = k.board }

-- the low five bits of the status
pub marked_32 : (b : Bool) (s : ℕ) → marked 32 b s % 32 ≡ s % 32
unfolding marked
marked_32 true s = omega arith
marked_32 false s = refl

pub marked_64 : (b : Bool) (s : ℕ) → marked 64 b s % 32 ≡ s % 32
unfolding marked
marked_64 true s = omega arith
marked_64 false s = refl

pick_lt : (n : ℕ) (b : Bool) (x y : ℕ) → x < n → y < n → cond b x y < n
pick_lt n b x y p q = cond_both (λ z. z < n) b x y p q

drawn_good : (u : Ppu) (l r n o : List ℕ) → Good u → u.scanline < 240 → Good (drawn_unit u l r n o)
unfolding drawn_unit status_of
drawn_good u l r n o g h =
    record {
      status = marked_32 _ _ ∙ marked_64 _ u.status ∙ g.status;
      v = pick_lt 32768 (is_rendering u) _ u.v (side_lt u.t (row_down u.v) (down_lt u.v g.v)) g.v;
      t = g.t;
      x = g.x;
      scanline = omega arith;
    }

blank_good : (u : Ppu) → Good u → Good (blank_unit u)
unfolding blank_unit vblank_line pre_render_line idle_line
blank_good u g = go (eqb u.scanline 241) (eqb u.scanline (last_line u.board)) refl refl
  where
    go : (x y : Bool) → eqb u.scanline 241 ≡ x → eqb u.scanline (last_line u.board) ≡ y → Good (cond x (vblank_line u) (cond y (pre_render_line u) (idle_line u)))
    go true y e f = let h = eqb-true u.scanline 241 e in omega arith
    go false true e f = record { status = omega arith; v = pick_lt 32768 (is_rendering u) u.t u.v g.t g.v; t = g.t; x = g.x; scanline = omega arith }
    go false false e f = let h = eqb-false u.scanline (last_line u.board) f in omega arith

pub line_good : (s : State) → Good s.unit → Good (one_line s).unit
unfolding one_line drawn_line
line_good s g = go (ltb s.unit.scanline 240) refl
  where
    go : (x : Bool) → ltb s.unit.scanline 240 ≡ x → Good (cond x (drawn_line s) (state (blank_unit s.unit) s.memory)).unit
    go true e = drawn_good s.unit _ _ _ _ g (ltb-true s.unit.scanline 240 e)
    go false e = blank_good s.unit g

pub lines_good : (k : ℕ) (s : State) → Good s.unit → Good (lines_run k s).unit
unfolding lines_run
lines_good zero s g = g
lines_good (suc k) s g = line_good (lines_run k s) (lines_good k s g)

pub done_sound : (c : Call) (s : State) → Good s.unit → Sound s.unit (done c s).after.unit
unfolding done read_done write_done dma_done run_done search_done
done_sound (read_call l a) s g = sound (kept_read s.unit g (a % 8) _ s.memory.cells)
done_sound (write_call l a b) s g = sound (kept_write s.unit g b (a % 8))
done_sound (dma_call l p) s g = sound (kept_dma p s.unit g)
done_sound (run_call l why n) s g = record { good = lines_good (line_count why n s) s g; board = lines_board (line_count why n s) s }
done_sound (search_call l n) s g = record { good = g; board = refl }

-- no call changes the board
pub lent_board : (c : Call) (s : State) → (on_lent c s).after.unit.board ≡ s.unit.board
lent_board c s = on_gate (λ (t : State). t.unit.board ≡ s.unit.board) c s (λ a. (done_sound c s (good_of s.unit a.well)).board) refl

pub call_board : (c : Call) (s : State) → (call c s).after.unit.board ≡ s.unit.board
unfolding call
call_board c s = lent_board c (state s.unit (lent_memory (lent_of c) s.memory))

-- a unit is well formed after a call if it was before; one that was not stays
pub lent_formed : (c : Call) (s : State) → is_well_formed (on_lent c s).after.unit ≡ is_well_formed s.unit
lent_formed c s =
    on_gate (λ (t : State). is_well_formed t.unit ≡ is_well_formed s.unit) c s
    (λ a. well (done c s).after.unit (done_sound c s (good_of s.unit a.well)).good ∙ sym a.well) refl

pub call_formed : (c : Call) (s : State) → is_well_formed (call c s).after.unit ≡ is_well_formed s.unit
unfolding call
call_formed c s = lent_formed c (state s.unit (lent_memory (lent_of c) s.memory))

pub call_good : (c : Call) (s : State) → is_well_formed s.unit ≡ true → is_well_formed (call c s).after.unit ≡ true
call_good c s h = call_formed c s ∙ h

stays : {u u' : Ppu} → Nums 0 u u' → Good u → u'.scanline ≡ (u.scanline + 0) % (last_line u.board + 1)
stays {u} n g = let l : u.scanline + 0 < last_line u.board + 1 = omega arith in n.scanline ∙ sym (mod-eq_of_lt l)

-- a fresh unit is well formed
pub fresh_good : (d : Board) → is_well_formed (fresh d) ≡ true
fresh_good d = well (fresh d) (omega arith)

-- THE NEXT LINE after any call is as many lines further as it reports, modulo the lines of a frame
done_lines : (c : Call) (s : State) → Good s.unit → (done c s).after.unit.scanline ≡ (s.unit.scanline + (done c s).answer.lines) % (last_line s.unit.board + 1)
unfolding done read_done write_done dma_done run_done search_done
done_lines (read_call l a) s g = stays (kept_read s.unit g (a % 8) _ s.memory.cells).nums g
done_lines (write_call l a b) s g = stays (kept_write s.unit g b (a % 8)).nums g
done_lines (dma_call l p) s g = stays (kept_dma p s.unit g).nums g
done_lines (run_call l why n) s g = run_reports l why n s (omega arith)
done_lines (search_call l n) s g = stays (kept_refl s.unit g).nums g

pub lent_lines : (c : Call) (s : State) → is_well_formed s.unit ≡ true → (on_lent c s).after.unit.scanline ≡ (s.unit.scanline + (on_lent c s).answer.lines) % (last_line s.unit.board + 1)
lent_lines c s h =
    let g = good_of s.unit h in
    by_gate (λ (o : Outcome). o.after.unit.scanline ≡ (s.unit.scanline + o.answer.lines) % (last_line s.unit.board + 1)) c s
    (λ a. done_lines c s g) (λ k. stays (kept_refl s.unit g).nums g)

pub call_lines : (c : Call) (s : State) → is_well_formed s.unit ≡ true → (call c s).after.unit.scanline ≡ (s.unit.scanline + (call c s).answer.lines) % (last_line s.unit.board + 1)
unfolding call
call_lines c s h = lent_lines c (state s.unit (lent_memory (lent_of c) s.memory)) h

-- THE MEMORY: each part as long as before
pub record SameCells (m m' : Cells) : Type 0 where
  pub left : length m'.left ≡ length m.left
  pub right : length m'.right ≡ length m.right
  pub nametables : length m'.nametables ≡ length m.nametables
  pub oam : length m'.oam ≡ length m.oam
  pub palette : length m'.palette ≡ length m.palette

pub record SameLengths (m m' : Memory) : Type 0 where
  pub cells : SameCells m.cells m'.cells
  pub line : length m'.line ≡ length m.line
  pub colours : length m'.colours ≡ length m.colours

same_cells : (m : Cells) → SameCells m m
same_cells m = record { left = refl; right = refl; nametables = refl; oam = refl; palette = refl }

pub same_long : (m : Memory) → SameLengths m m
same_long m = record { cells = same_cells m.cells; line = refl; colours = refl }

pub same_then : {a b c : Memory} → SameLengths a b → SameLengths b c → SameLengths a c
same_then h k =
    record {
      cells = record {
        left = k.cells.left ∙ h.cells.left;
        right = k.cells.right ∙ h.cells.right;
        nametables = k.cells.nametables ∙ h.cells.nametables;
        oam = k.cells.oam ∙ h.cells.oam;
        palette = k.cells.palette ∙ h.cells.palette;
      };
      line = k.line ∙ h.line;
      colours = k.colours ∙ h.colours;
    }

stored_long : (p : Place) (w : Bool) (b : ℕ) (m : Cells) → SameCells m (stored p w b m)
unfolding stored
stored_long (Pattern true at) true b m = record { left = refl; right = simp length-set; nametables = refl; oam = refl; palette = refl }
stored_long (Pattern false at) true b m = record { left = simp length-set; right = refl; nametables = refl; oam = refl; palette = refl }
stored_long (Pattern right at) false b m = same_cells m
stored_long (Nametable at) w b m = record { left = refl; right = refl; nametables = simp length-set; oam = refl; palette = refl }
stored_long (Palette at) w b m = record { left = refl; right = refl; nametables = refl; oam = refl; palette = simp length-set }

video_long : (p : ℕ) (u : Ppu) (b : ℕ) (m : Cells) → SameCells m (wrote_video p u b m)
unfolding wrote_video
video_long p u b m = cond_both (SameCells m) (eqb p 7) _ m (stored_long (place_of u.board u.v) u.board.writable b m) (same_cells m)

oam_long : (p : ℕ) (u : Ppu) (b : ℕ) (o : List ℕ) → length (wrote_oam_bytes p u b o) ≡ length o
unfolding wrote_oam_bytes
oam_long p u b o = go (eqb p 4) (drops_oam u)
  where
    go : (x y : Bool) → length (cond x (cond y o (set o u.oamaddr b)) o) ≡ length o
    go true true = refl
    go true false = simp length-set
    go false y = refl

wrote_long : (p : ℕ) (u : Ppu) (b : ℕ) (m : Cells) → SameCells m (wrote_memory p u b m)
unfolding wrote_memory
wrote_long p u b m =
    let v = video_long p u b m in
    record { left = v.left; right = v.right; nametables = v.nametables; oam = oam_long p u b m.oam; palette = v.palette }

dma_long : (p : List ℕ) (u : Ppu) (o : List ℕ) → length (dma_oam p u o) ≡ length o
unfolding dma_oam
dma_long [] u o = refl
dma_long (b ∷ bs) u o = dma_long bs (wrote_unit 4 u b) (wrote_oam_bytes 4 u b o) ∙ oam_long 4 u b o

-- the line buffers stay as long as they are
record LineLong (m : Memory) : Type 0 where
  line : length m.line ≡ line_length
  colours : length m.colours ≡ colours_length

line_long_lem : (s : State) → LineLong s.memory → LineLong (one_line s).memory
unfolding one_line drawn_line
line_long_lem s h =
    cond_both (λ (t : State). LineLong t.memory) (ltb s.unit.scanline 240) (drawn_line s) (state (blank_unit s.unit) s.memory)
    (record { line = picture_long _ _ _ _ _; colours = coloured_long _ _ _ ∙ picture_long _ _ _ _ _ }) h

pub lines_cells : (k : ℕ) (s : State) → (lines_run k s).memory.cells ≡ s.memory.cells
unfolding lines_run
lines_cells zero s = refl
lines_cells (suc k) s = line_cells (lines_run k s) ∙ lines_cells k s

lines_long : (k : ℕ) (s : State) → LineLong s.memory → LineLong (lines_run k s).memory
unfolding lines_run
lines_long zero s h = h
lines_long (suc k) s h = line_long_lem (lines_run k s) (lines_long k s h)

line_fits : (u : Ppu) (m : Memory) → T (line_long u m) → LineLong m
line_fits u m e = record { line = eqb→eq _ _ (search (and_l, and_r) depth 9); colours = eqb→eq _ _ (search (and_l, and_r) depth 9) }

drawn_long : {m m' : Memory} → m'.cells ≡ m.cells → LineLong m → LineLong m' → SameLengths m m'
drawn_long {m} {m'} e h k = record { cells = subst (SameCells m.cells) (sym e) (same_cells m.cells); line = k.line ∙ sym h.line; colours = k.colours ∙ sym h.colours }

done_long : (c : Call) (s : State) → long_for c s.unit s.memory ≡ true → SameLengths s.memory (done c s).after.memory
unfolding done read_done write_done dma_done run_done search_done
done_long (read_call l a) s h = same_long s.memory
done_long (write_call l a b) s h = record { cells = wrote_long (a % 8) s.unit b s.memory.cells; line = refl; colours = refl }
done_long (dma_call l p) s h = record { cells = record { left = refl; right = refl; nametables = refl; oam = dma_long p s.unit s.memory.cells.oam; palette = refl }; line = refl; colours = refl }
done_long (run_call l why n) s h =
    let f = line_fits s.unit s.memory (subst T (sym h) tt) in
    let k = line_count why n s in
    drawn_long (lines_cells k s) f (lines_long k s f)
done_long (search_call l n) s h = same_long s.memory

-- what a call is lent keeps its lengths
pub lent_long : (c : Call) (s : State) → SameLengths s.memory (on_lent c s).after.memory
lent_long c s =
    on_gate (λ (t : State). SameLengths s.memory t.memory) c s (λ a. done_long c s a.long) (same_long s.memory)

pub call_lent_long : (c : Call) (s : State) → SameLengths (lent_memory (lent_of c) s.memory) (call c s).lent
unfolding call
call_lent_long c s = lent_long c (state s.unit (lent_memory (lent_of c) s.memory))

-- and so does the unit's own memory
own_long : (l : Lent) (m o : Memory) → SameLengths (lent_memory l m) o → SameLengths m (own_memory l m o)
own_long own m o h = h
own_long (other x) m o h = same_long m

pub call_long : (c : Call) (s : State) → SameLengths s.memory (call c s).after.memory
unfolding call
call_long c s = own_long (lent_of c) s.memory _ (lent_long c (state s.unit (lent_memory (lent_of c) s.memory)))

kept_lengths : (d : Board) (m m' : Memory) → SameLengths m m' → Lengths d m → Lengths d m'
kept_lengths d m m' e l =
    record {
      video = record {
        left = e.cells.left ∙ l.video.left;
        right = e.cells.right ∙ l.video.right;
        nametables = e.cells.nametables ∙ l.video.nametables;
        palette = e.cells.palette ∙ l.video.palette;
      };
      oam = e.cells.oam ∙ l.oam;
      line = e.line ∙ l.line;
      colours = e.colours ∙ l.colours;
    }

pub call_lengths : (c : Call) (s : State) → Lengths s.unit.board s.memory → Lengths (call c s).after.unit.board (call c s).after.memory
call_lengths c s l =
    subst (λ d. Lengths d (call c s).after.memory) (sym (call_board c s))
    (kept_lengths s.unit.board s.memory (call c s).after.memory (call_long c s) l)
