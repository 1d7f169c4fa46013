-- Many puts come to what the fates let arrive.
use Rattle.std.proofs.Common.{[], ◌∷◌, length, sym, refl, one-add}
use Rattle.std.proofs.lemmas.List.{append_assoc, append-nil, drop-drop}
use Rattle.carriage.specs.Fates.{next_fate, later_fates, arriving, arrivals}
use Rattle.carriage.specs.Laws.{none, more, PutsArrive}

pub puts_arrive : PutsArrive
puts_arrive old new [] none = record { waiting = sym (append-nil old.waiting); fates = refl }
puts_arrive old new (cell ∷ cells) (more {next = next} put rest) =
    let later = puts_arrive next new cells rest in
    let joined = append_assoc old.waiting (arriving (next_fate old.fates) cell) (arrivals (later_fates old.fates) cells) in
    let dropped = drop-drop (length cells) 1 old.fates in
    let counted = one-add (length cells) in
    record { waiting = cc; fates = cc }
