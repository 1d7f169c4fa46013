-- An octet counts as corrected exactly if it is valid and differs from its header: by the laws of the header code alone. Assumes nothing.
use Rattle.std.proofs.Common.{◌≡◌, ℕ, ◌<◌, true, not, Decides, ap, ◌∙◌, ⊎_elim}
use Rattle.std.proofs.lemmas.Bool.{and_parts, and_from, both_ways}
use Rattle.header.specs.declared.reader.Mode.{Mode}
use Rattle.header.specs.declared.reader.Mode.TheVariants.{Correction}
use Rattle.header.specs.Code.{sealed}
use Rattle.header.specs.Reading.{corrects, reading, mode_after}
use Rattle.header.specs.Laws.{Traced}
use Rattle.header.proofs.Sealed.{sealed_protected}
use Rattle.header.proofs.Found.{readings_explained}
use Rattle.header_listing.specs.Entries.{entry_of, is_corrected}
use Rattle.header_listing.specs.Laws.{Differs}

module _ (m : Mode) (octet : ℕ) (small : octet < 256) where
  traced : (reading m octet).valid ≡ true → Traced m octet (reading m octet).csi (reading m octet).count (mode_after m octet)
  traced = (readings_explained m octet small).when_valid

  -- its own header is read in either mode with correction mode following
  own_header : (valid : (reading m octet).valid ≡ true) → octet ≡ sealed (reading m octet).csi (reading m octet).count → mode_after m octet ≡ Correction
  own_header valid same =
      let t = traced valid in
      ap (mode_after m) same ∙ ((sealed_protected (reading m octet).csi (reading m octet).count t.csi_small t.count_small).clean m).follows

  differs : is_corrected (entry_of m octet) ≡ true → Differs m octet
  differs counted =
      let parts = and_parts (reading m octet).valid (not (corrects (mode_after m octet))) counted in
      (parts.0, λ same. both_ways (not (corrects (mode_after m octet))) (ap (λ n. not (corrects n)) (own_header parts.0 same)) parts.1)

  is_counted : Differs m octet → is_corrected (entry_of m octet) ≡ true
  is_counted d =
      and_from (reading m octet).valid (not (corrects (mode_after m octet))) d.0
      (⊎_elim (λ own. absurd (d.1 own.0)) (λ turned. ap (λ n. not (corrects n)) turned.1) (traced d.0).from)

  pub corrected_differ : Decides (is_corrected (entry_of m octet)) (Differs m octet)
  corrected_differ = (differs, is_counted)
