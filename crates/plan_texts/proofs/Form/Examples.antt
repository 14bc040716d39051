-- The table of texts, by one computation; a plain form written out.
use mathlib.Core.Path.{◌≡◌, refl}
use mathlib.Core.Bool.{true}
use Rattle.plan_texts.specs.Form.Reading.{digits_up_to, value_from, is_number, end_in, is_set, line_in, lines_in, readable, steps_read, step_bytes, names}
use Rattle.plan_texts.specs.Form.Plain.{plain_lines, plain}
use Rattle.plan_texts.specs.Form.Table.{bytes, text_table, agree, written_steps, form}

pub texts_read : agree text_table ≡ true
unfolding digits_up_to value_from is_number end_in is_set line_in lines_in readable steps_read step_bytes bytes text_table agree
texts_read = refl

pub names_bytes : names ≡ bytes "row,set,number"
unfolding bytes
names_bytes = refl

pub form_written : plain written_steps ≡ form
unfolding plain_lines plain bytes form
form_written = refl
