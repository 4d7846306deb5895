-- The example of specs/Example.antt, proved.
use mathlib.Core.Path.{◌≡◌, refl, sym, ap, ◌∙◌}
use mathlib.Core.Bool.{Bool, true, false, true≢false, not, ◌&&◌}
use mathlib.Core.List.{List, [], ◌∷◌}
use Prim.Native.Nat.{ℕ, ◌+◌, ◌≤◌, ◌<◌}
use native.Mathlib.Omega.{arith}
use lib.Dec.{lit<, leb, ltb, eqb}
use lib.ListN.{get_or}
use borrow.Author.Tests.{eqb-false, eq-eqb, leb-true, ltb-true}
use Rattle.model.specs.Unit.{State, state, zero_unit, last_line, is_well_formed, is_drawing, is_rendering, nmi_level}
use Rattle.model.specs.Record.{record_of}
use Rattle.model.specs.Address.{place_of, byte_at, cell_of, page_at, palette_cell}
use Rattle.model.specs.Ports.{stepped, wrote_control, wrote_mask, wrote_oamaddr, wrote_scroll, wrote_address, wrote_port, wrote_memory, wrote_oam_bytes, wrote_video, read_byte, read_status, read_data, read_unit, status_byte, data_byte, buffer_byte}
use Rattle.model.specs.Line.{one_line, blank_unit, idle_line, vblank_line, pre_render_line, lines_run, meets_reason, line_count, reason_met}
use Rattle.model.specs.Calls.{Call, on_lent, call, refusal_of, order, done, read_done, write_done, run_done, search_done}
use Rattle.model.specs.Reload.{end_of, total_of, trace, data_call, seven, joined, reload, all_below, Quiet, Pair, Held}
use Rattle.model.specs.Example.{filled, board12, short, start, one, two, further, Example}
use Rattle.model.proofs.Tests.{and_both}
use Rattle.model.proofs.Needed.{places, bytes, lengths, held, quiet}
use Rattle.model.proofs.Reloaded.{demand3}
use Rattle.model.proofs.Records.{pair_kept}
use Rattle.model.proofs.Theorems.{bytes_below}

-- a log is quiet, as a test that computes: each call begins at line 240 or later, ends before the last, and is no data call that is done
abbrev quietly : List Call → State → Bool
quietly [] s = leb 240 s.unit.scanline && ltb s.unit.scanline (last_line s.unit.board)
quietly (c ∷ cs) s =
    leb 240 s.unit.scanline
    && (ltb (s.unit.scanline + (call c s).answer.lines) (last_line s.unit.board) && (not (data_call c && eqb (call c s).answer.number 0) && quietly cs (call c s).after))

not_done : (d : Bool) (n : ℕ) → not (d && eqb n 0) ≡ true → d ≡ true → n ≡ 0 → ⊥
not_done true n h e z = true≢false (sym h ∙ ap (λ (b : Bool). not b) (eq-eqb n 0 z))
not_done false n h e z = true≢false (sym e)

quiet_log : (cs : List Call) (s : State) → quietly cs s ≡ true → Quiet data_call cs s
quiet_log [] s h = let p = and_both _ _ h in (leb-true 240 s.unit.scanline p.0, ltb-true s.unit.scanline (last_line s.unit.board) p.1)
quiet_log (c ∷ cs) s h =
    let p = and_both _ _ h in
    let q = and_both _ _ p.1 in
    let r = and_both _ _ q.1 in
    let low : 240 ≤ s.unit.scanline = leb-true 240 s.unit.scanline p.0 in
    let high : s.unit.scanline + (call c s).answer.lines < last_line s.unit.board = ltb-true _ _ q.0 in
    ((low, omega (arith, high)), quiet c s low high (not_done (data_call c) (call c s).answer.number r.0), quiet_log cs (call c s).after r.1)

pair : Pair data_call start one two
unfolding start one two total_of end_of call on_lent refusal_of order done read_done write_done run_done search_done wrote_port wrote_control wrote_mask wrote_memory wrote_video wrote_oam_bytes read_unit read_byte read_status read_data stepped status_byte data_byte buffer_byte place_of byte_at cell_of page_at palette_cell is_well_formed is_drawing is_rendering nmi_level filled short one_line blank_unit idle_line vblank_line lines_run meets_reason line_count reason_met
pair = record { warm = refl; lengths = lengths 255 board12; quiet_a = quiet_log one start refl; quiet_b = quiet_log two start refl; lines_run_lem = refl }

short_held : Held (state zero_unit short)
unfolding short all_below is_well_formed record_of
short_held = record { formed = refl; unit = refl; left = refl; right = refl; nametables = refl; oam = refl; palette = refl; line = refl; colours = refl }

example : Example places bytes
unfolding start one two further places bytes reload seven joined trace total_of end_of call on_lent refusal_of order done read_done write_done run_done search_done wrote_port wrote_control wrote_mask wrote_oamaddr wrote_scroll wrote_address wrote_memory wrote_video wrote_oam_bytes read_unit read_byte read_status read_data stepped status_byte data_byte buffer_byte place_of byte_at cell_of page_at palette_cell is_well_formed is_drawing is_rendering nmi_level filled short one_line blank_unit idle_line vblank_line pre_render_line lines_run meets_reason line_count reason_met record_of all_below
example =
    record {
      pair = pair;
      held = held 255 refl board12 _ refl refl;
      fit = (
        ((tt, lit< tt), ((tt, lit< tt, lit< tt), ((tt, lit< tt, lit< tt), ((tt, lit< tt, lit< tt), ((tt, lit< tt, lit< tt), ((tt, lit< tt), ((tt, lit< tt, lit< tt), ((short_held, lit< tt, lit< tt), ((tt, refl), ((tt, lit< tt), ((tt, lit< tt), ((held 1 refl board12 zero_unit refl refl, lit< tt), ((tt, lit< tt, lit< tt), tt))))))))))))),
        ((tt, lit< tt, lit< tt), tt),
        ((tt, lit< tt, lit< tt), ((tt, lit< tt, lit< tt), ((tt, lit< tt), tt))),
      );
      numbers = refl;
      lines = refl;
      met = refl;
      next_line = refl;
      differ = λ e. eqb-false 255 127 refl (ap (λ (r : List ℕ). get_or r 0 0) e);
      equal = demand3 start one two pair places places bytes;
      drawing = refl;
      record_pair = pair_kept start one two refl (bytes_below (record_of start.unit) refl) pair;
    }
