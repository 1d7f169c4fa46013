-- The numbers of a listing are counts of its entries. Assumes nothing.
use Rattle.std.proofs.Common.{◌≡◌, ℕ, ◌+◌, ◌-◌, ◌^◌, ◌≤◌, Bool, true, false, cond, List, [], ◌∷◌, length, refl, ap, ◌∙◌, arith}
use Rattle.header.specs.declared.reader.Mode.{Mode}
use Rattle.header.specs.declared.reader.Mode.TheVariants.{Correction}
use Rattle.header.specs.Reading.{mode_after}
use Rattle.header_listing.specs.declared.entry.Entry.{Entry}
use Rattle.header_listing.specs.declared.listing.Listing.{Listing}
use Rattle.header_listing.specs.declared.listing.Tally.{Tally}
use Rattle.header_listing.specs.Entries.{entry_of, is_corrected, is_invalid, capped, bumped, noted, opened, advanced}
use Rattle.header_listing.specs.Laws.{entries, how_many, advanced_by, Counts}

-- n and then one more for each entry that passes
bumped_all : (Entry → Bool) → ℕ → List Entry → ℕ
bumped_all p n [] = n
bumped_all p n (e ∷ es) = bumped_all p (bumped (p e) n) es

bumped_small : (b : Bool) (n : ℕ) → n ≤ 2 ^ 64 - 1 → bumped b n ≤ 2 ^ 64 - 1
bumped_small true n h = omega arith
bumped_small false n h = h

bumped_more : (b : Bool) (n k : ℕ) → n ≤ 2 ^ 64 - 1 → capped (bumped b n + k) ≡ capped (n + (cond b 1 0 + k))
bumped_more true n k h = omega arith
bumped_more false n k h = omega arith

all_counted : (p : Entry → Bool) (n : ℕ) (es : List Entry) → n ≤ 2 ^ 64 - 1 → bumped_all p n es ≡ capped (n + how_many p es)
unfolding bumped_all how_many
all_counted p n [] h = omega arith
all_counted p n (e ∷ es) h = all_counted p (bumped (p e) n) es (bumped_small (p e) n h) ∙ bumped_more (p e) n (how_many p es) h

all_entries : (m : Mode) (octets : List ℕ) → how_many (λ _. true) (entries m octets) ≡ length octets
unfolding how_many entries
all_entries m [] = refl
all_entries m (octet ∷ octets) = omega (arith, all_entries (mode_after m octet) octets)

-- a number of the tally that goes up by one with each entry that passes
module _ (number : Tally → ℕ) (p : Entry → Bool) (steps : (t : Tally) (e : Entry) → number (noted t e) ≡ bumped (p e) (number t)) where
  after : (l : Listing) (octets : List ℕ) → number (advanced_by l octets).tally ≡ bumped_all p (number l.tally) (entries l.reader.mode octets)
  unfolding advanced_by entries bumped_all
  after l [] = refl
  after l (octet ∷ octets) =
      let e = entry_of l.reader.mode octet in
      after (advanced l octet) octets ∙ ap (λ n. bumped_all p n (entries (mode_after l.reader.mode octet) octets)) (steps l.tally e)

  counted : number opened.tally ≡ 0 → (octets : List ℕ) → number (advanced_by opened octets).tally ≡ capped (how_many p (entries Correction octets))
  counted none octets =
      let es = entries Correction octets in
      after opened octets ∙ ap (λ n. bumped_all p n es) none ∙ all_counted p 0 es (omega arith) ∙ omega arith

pub counts : (octets : List ℕ) → Counts octets
counts octets = record {
  read = counted (λ t. t.read) (λ _. true) (λ t e. refl) refl octets ∙ ap capped (all_entries Correction octets);
  corrected = counted (λ t. t.corrected) is_corrected (λ t e. refl) refl octets;
  invalid = counted (λ t. t.invalid) is_invalid (λ t e. refl) refl octets;
}
