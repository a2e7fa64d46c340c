-- The room that the scratch of notes has.
use Rattle.repeats.specs.Labelled.{LabelRoom}
use Rattle.repeats.specs.declared.notes.Notes.{Notes}

-- there is room for the most labels, and the count goes one past them at most
pub room : (notes : Notes) → LabelRoom notes.numbers.now notes.count
room notes = record { long = notes.long; few = notes.few }
