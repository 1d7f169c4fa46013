-- A push into a ring of cells is a put into a carriage.
use Rattle.std.proofs.Common.{◌≡◌, [], ◌∷◌, ◌++◌, length, Ok, Err, Result, sym, refl, ap, ◌∙◌, arith, length-set, MatchResult}
use Rattle.std.proofs.lemmas.List.{length_push}
use Rattle.cell.proofs.Cells.{turned_none}
use Rattle.cell.specs.declared.fault.Fault.{Fault}
use Rattle.cell.specs.declared.fault.Part.TheVariants as part
use Rattle.cell.specs.declared.octets.Cell.{Cell}
use Rattle.ring.specs.declared.ring.Ring.{Ring}
use Rattle.ring.specs.Rings.{entries, slots_of, next_slot, Push, Pushed}
use Rattle.carriage.specs.Meaning.{Put}
use Rattle.carriage.specs.Queues.{queue_meaning}

pub put_by_push : (old new : Ring Cell) (cell : Cell) (r : Result (Unit {0}) Fault) → Push old cell r new → Put part.Ring cell (queue_meaning old) r (queue_meaning new)
put_by_push old new cell (Ok _) p =
    let f = p.was_free in
    let n = ap length p.joined ∙ length_push (entries old) cell in
    let s = ap length p.written ∙ length-set (slots_of old) (next_slot old) cell in
    record {
      had_room = omega arith;
      waiting = p.joined ∙ ap (λ (c : Cell). entries old ++ c ∷ []) (sym (turned_none cell));
      fates = refl;
      room = (omega arith, omega arith);
    }
put_by_push old new cell (Err fault) p = (let e = p.0 in omega arith, tt, p.1, ap queue_meaning p.2)

pub store_by_push : (old new : Ring Cell) (cell : Cell) (r : Result (Unit {0}) Fault) → Push old cell r new → MatchResult r (λ _. Pushed old cell new) (λ _. new ≡ old)
store_by_push old new cell (Ok _) p = p
store_by_push old new cell (Err fault) p = p.2
