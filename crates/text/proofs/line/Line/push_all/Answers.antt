use Rattle.std.proofs.Common.{◌≡◌, ◌≤◌, [], ◌∷◌, ◌++◌, length, get_or, take, arith, rules, length-set}
use Rattle.text.specs.Lines.{text_of, kept}
use Rattle.text.proofs.Kept.{kept_none, kept_next, kept_one, kept_full}
use Rattle.text.proofs.line.Line.push_all.Goals as goal
use Rattle.text.proofs.line.Line.push_all.Goals.{then-len-lt96, else-len-lt96}

pub loop-octet-init : goal.loop-octet-init
loop-octet-init c = let l = c.args.self.now in record { whole = search rules; within = l.fits; text = kept_none l.octets l.len l.fits }

pub loop-octet-preserved : goal.loop-octet-preserved
loop-octet-preserved c =
    let turn = c.loop-octet in
    let next = c.if-len-lt96 in
    let octet = get_or c.args.octets.now turn.octet-index 0 in
    let whole = turn.invariant.whole in
    let stays : length next.self.octets ≡ 96 =
    elim next.branch [
      | then-len-lt96 w ↦ cc (length-set turn.self.octets turn.len octet)
      | else-len-lt96 w ↦ cc
    ] in
    let within : next.len ≤ 96 = elim next.branch [ then-len-lt96 w ↦ omega arith | else-len-lt96 w ↦ omega arith ] in
    let written : take next.len next.self.octets ≡ kept (take turn.len turn.self.octets ++ (octet ∷ [])) =
    elim next.branch [
      | then-len-lt96 w ↦ cc (kept_one turn.self.octets turn.len octet w.if-len-lt96.true whole)
      | else-len-lt96 w ↦ cc (kept_full turn.self.octets turn.len octet (omega arith) whole)
    ] in
    record {
      whole = stays;
      within = within;
      text = kept_next (text_of c.args.self.now) (take turn.len turn.self.octets) (take next.len next.self.octets) c.args.octets.now turn.octet-index c.loop-octet-test.true turn.invariant.text written;
    }
