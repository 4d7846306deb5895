use Rattle.std.proofs.Common.{◌≡◌, ◌∙◌, sym, ◌++◌, List, ℕ, length, drop, refl, ap, arith, length-take}
use Rattle.model.proofs.Tab.{length_tab}
use Rattle.text.proofs.Cases.{page_wrong, table_wrong, rows_wrong, page_refused, page_unknown, page_done}
use Rattle.text.proofs.page.Goals as goal

pub returns-in_default : goal.returns-in_default
returns-in_default c = page_refused _ _ _ _ _ (rows_wrong _ _ _ c.in_default.ensures.cases) refl c.refused.ensures

pub returns-in_default-as_array : goal.returns-in_default-as_array
returns-in_default-as_array c = page_refused _ _ _ _ _ (table_wrong _ _ _ c.in_default-as_array.ensures.cases) refl c.refused-in_default-as_array.ensures

pub returns-then-page-ne1024 : goal.returns-then-page-ne1024
returns-then-page-ne1024 c = page_refused _ _ _ _ _ (page_wrong _ _ _ c.if-page-ne1024.true) refl c.refused-then-page-ne1024.ensures

pub returns-then-put_tiles : goal.returns-then-put_tiles
returns-then-put_tiles c =
    page_unknown _ _ _ _ _ _ _ _ c.if-page-ne1024.false c.in-Some-as_array.ensures.cases c.in-Some.ensures.cases c.inverse.ensures c.type_inv.rows
    (sym c.put_tiles.ensures.1 ∙ c.if-put_tiles.true) refl c.refused-then-put_tiles.ensures

pub slice_bounds-copy_from_slice-end-2 : goal.slice_bounds-copy_from_slice-end-2
slice_bounds-copy_from_slice-end-2 c = simp length-take (omega arith)

pub copy_from_slice-requires : goal.copy_from_slice-requires
copy_from_slice-requires c = let l : length c.put_tiles.new.made ≡ 960 = rw c.put_tiles.ensures.0 (length_tab _ 960) in simp length-take (omega arith)

pub returns : goal.returns
returns c =
    page_done _ _ _ _ _ _ _ _ c.if-page-ne1024.false c.in-Some-as_array.ensures.cases c.in-Some.ensures.cases c.inverse.ensures c.type_inv.rows
    _ (sym c.put_tiles.ensures.1 ∙ c.if-put_tiles.false) c.put_tiles.ensures.0 (ap (λ (l : List ℕ). l ++ drop 960 c.args.page.now) c.copy_from_slice.ensures.after) refl
