-- The document's example of a log: what is played and what is printed.
use mathlib.Core.Path.{◌≡◌, refl}
use mathlib.Core.List.{List, [], ◌∷◌}
use Prim.Native.Nat.{ℕ}
use Rattle.model.specs.Unit.{is_well_formed, is_drawing, is_rendering, nmi_level}
use Rattle.model.specs.Record.{wiring_at}
use Rattle.model.specs.Address.{place_of, byte_at, stored, cell_of, page_at, palette_cell}
use Rattle.model.specs.Ports.{stepped, wrote_control, wrote_mask, wrote_oamaddr, wrote_oam, wrote_scroll, wrote_address, wrote_port, wrote_memory, wrote_oam_bytes, wrote_video, read_byte, read_status, read_data, read_unit, status_byte, data_byte, buffer_byte}
use Rattle.model.specs.Line.{marked, status_of, drawn_unit, drawn_line, idle_line, vblank_line, pre_render_line, blank_unit, one_line, lines_run, meets_reason, line_count, reason_met}
use Rattle.model.specs.Calls.{refusal_of, order, read_done, write_done, run_done, done, on_lent}
use Rattle.model.specs.Log.{records_of, record_known, record_call, play_one, hex_digit, decimal, read_text, run_text, refused_text, done_text, kind_of, text_of, ends, played_text, start_state, player_text}

unfoldable pub example_log : List ℕ
example_log =
    0x02 ∷ 0x01 ∷ 0x06 ∷ 0x00 ∷
    0x01 ∷ 0x20 ∷ 0x06 ∷ 0x21 ∷
    0x01 ∷ 0x20 ∷ 0x06 ∷ 0x08 ∷
    0x01 ∷ 0x20 ∷ 0x07 ∷ 0x42 ∷
    0x01 ∷ 0x20 ∷ 0x06 ∷ 0x21 ∷
    0x01 ∷ 0x20 ∷ 0x06 ∷ 0x08 ∷
    0x00 ∷ 0x20 ∷ 0x07 ∷ 0x00 ∷
    0x00 ∷ 0x20 ∷ 0x07 ∷ 0x00 ∷
    0x00 ∷ 0x20 ∷ 0x02 ∷ 0x00 ∷
    0x00 ∷ 0x40 ∷ 0x00 ∷ 0x00 ∷
    []

-- "line 0 nmi 0", "00", "42", "02", "refused 1"
unfoldable pub example_text : List ℕ
example_text =
    108 ∷ 105 ∷ 110 ∷ 101 ∷ 32 ∷ 48 ∷ 32 ∷ 110 ∷ 109 ∷ 105 ∷ 32 ∷ 48 ∷ 10 ∷
    48 ∷ 48 ∷ 10 ∷
    52 ∷ 50 ∷ 10 ∷
    48 ∷ 50 ∷ 10 ∷
    114 ∷ 101 ∷ 102 ∷ 117 ∷ 115 ∷ 101 ∷ 100 ∷ 32 ∷ 49 ∷ 10 ∷
    []

pub example_printed : player_text example_log ≡ example_text
unfolding example_log example_text player_text start_state played_text records_of play_one record_known record_call on_lent refusal_of order done read_done write_done run_done meets_reason line_count reason_met lines_run one_line drawn_line drawn_unit status_of marked blank_unit idle_line vblank_line pre_render_line is_well_formed is_drawing is_rendering nmi_level wiring_at stepped wrote_control wrote_mask wrote_oamaddr wrote_oam wrote_scroll wrote_address wrote_port wrote_memory wrote_oam_bytes wrote_video read_byte read_status read_data read_unit status_byte data_byte buffer_byte place_of byte_at stored cell_of page_at palette_cell hex_digit decimal read_text run_text refused_text done_text kind_of text_of ends
example_printed = refl
