use Rattle.std.proofs.Common.{refl}
use Rattle.text.proofs.Cases.{page_wrong, table_wrong, rows_wrong, text_refused, text_done}
use Rattle.text.proofs.text.Goals as goal

pub returns-in_default : goal.returns-in_default
returns-in_default c = text_refused _ _ _ _ _ (page_wrong _ _ _ c.in_default.ensures.cases) refl c.refused.ensures

pub returns-in_default-as_array : goal.returns-in_default-as_array
returns-in_default-as_array c = text_refused _ _ _ _ _ (table_wrong _ _ _ c.in_default-as_array.ensures.cases) refl c.refused-in_default-as_array.ensures

pub returns-in_default-as_mut_array : goal.returns-in_default-as_mut_array
returns-in_default-as_mut_array c = text_refused _ _ _ _ _ (rows_wrong _ _ _ c.in_default-as_mut_array.ensures.cases) refl c.refused-in_default-as_mut_array.ensures

pub returns : goal.returns
returns c =
    text_done _ _ _ _ _ _ _ _ _ c.in-Some.ensures.cases c.in-Some-as_array.ensures.cases c.in-Some-as_mut_array.ensures.cases
    c.put_rows-count.ensures.rows c.put_rows-count.ensures.count refl
