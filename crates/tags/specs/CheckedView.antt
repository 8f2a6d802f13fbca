-- An answer of the dictionary check as the record that C is given: a refusal by its number, with an empty layout, or 0 with the layout.
use Rattle.std.specs.Prelude.{Result, Ok, Err}
use Rattle.tags.specs.Refusal.{refusal_number}
use Rattle.tags.specs.Layout.{empty_layout}
use Rattle.tags.specs.declared.refusal.Refusal.{Refusal}
use Rattle.tags.specs.declared.Layout.{Layout}
use Rattle.tags.specs.declared.Checked.{Checked}

abbrev pub checked_of : Result Layout Refusal → Checked
checked_of (Ok l) = record { number = 0; layout = l }
checked_of (Err r) = record { number = refusal_number r; layout = empty_layout }
