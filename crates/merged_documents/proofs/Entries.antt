-- What is said of the entry of a schema, by levels: where each row says it of what its parts are converted to, and what stands in the place of a row that merges hands it on.
use Rattle.std.proofs.Common.{ℕ, ◌≡◌, zero, suc, List, [], ◌∷◌, Option, Some, None, refl}
use Rattle.schema_defs.specs.Texts.{Relations}
use Rattle.schema_defs.specs.Schema.{Schema, Document}
use Rattle.entry_defs.specs.Entry.{Entry, any_entry}
use Rattle.convert_defs.specs.Row.{Part, row_parts}
use Rattle.convert_defs.specs.Table.{finding_of, row_of}
use Rattle.convert_defs.specs.Convert.{named_by, entry_of}
use Rattle.convert_defs.proofs.Views.{AllParts}
use Rattle.convert_walks.specs.Spot.{Spot, Branches, part_spot, part_schema}
use Rattle.convert_walks.specs.Merging.{merged_at}
use Rattle.convert_walks.specs.Tree.{Standing, instead, if_merged, standing_entry, row_entry, entry_at}

-- `Has` is a fact of schemas on their spots, by levels, and `Says` is said of a schema and its entry
module _ (r : Relations) (d : Document) (most : ℕ) (Has : ℕ → Spot → Schema → Type 0) (Says : Schema → Entry → Type 0) where
  pub record IsHandedOn : Type 0 where
    pub nothing : (s : Schema) → Says s any_entry
    pub to_parts : (n : ℕ) (o : Spot) (s : Schema) → Has (suc n) o s → if_merged (row_of r d s) ≡ None
        → AllParts (λ p. Has n (part_spot o (finding_of r d s).branches p) (part_schema p)) (row_parts (row_of r d s))
    pub by_row : (n : ℕ) (o : Spot) (s : Schema) → Has (suc n) o s → if_merged (row_of r d s) ≡ None → (convert : Part → Entry) (name : List ℕ)
        → AllParts (λ p. Says (part_schema p) (convert p)) (row_parts (row_of r d s)) → Says s (entry_of convert name (row_of r d s))
    pub in_place : (n : ℕ) (o : Spot) (s : Schema) → Has (suc n) o s → (ps : List Part) → if_merged (row_of r d s) ≡ Some ps
        → (t : Standing) → instead o s (merged_at d most n o s ps) ≡ Some t → Has n t.spot t.schema × ((e : Entry) → Says t.schema e → Says s e)

  module _ (handed : IsHandedOn) where
    abbrev AllSay : ℕ → Type 0
    AllSay n = (o : Spot) (s : Schema) → Has n o s → Says s (entry_at r d most n o s)

    module _ (n : ℕ) (rec : AllSay n) (o : Spot) (s : Schema) (h : Has (suc n) o s) where
      abbrev met : Branches
      met = (finding_of r d s).branches

      abbrev converted_part : Part → Entry
      converted_part p = entry_at r d most n (part_spot o met p) (part_schema p)

      parts-say : (ps : List Part) → AllParts (λ p. Has n (part_spot o met p) (part_schema p)) ps → AllParts (λ p. Says (part_schema p) (converted_part p)) ps
      parts-say [] x = tt
      parts-say (p ∷ ps) x = (rec (part_spot o met p) (part_schema p) x.0, parts-say ps x.1)

      standing-says : (ps : List Part) → if_merged (row_of r d s) ≡ Some ps → (t : Option Standing) → instead o s (merged_at d most n o s ps) ≡ t
          → Says s (standing_entry r d most n (λ o s. entry_at r d most n o s) t)
      standing-says ps e None i = handed.nothing s
      standing-says ps e (Some t) i = let x = handed.in_place n o s h ps e t i in x.1 (entry_at r d most n t.spot t.schema) (rec t.spot t.schema x.0)

      row-says : (ps : Option (List Part)) → if_merged (row_of r d s) ≡ ps → Says s (row_entry r d most n (λ o s. entry_at r d most n o s) o s met (row_of r d s) ps)
      row-says (Some ps) e = standing-says ps e (instead o s (merged_at d most n o s ps)) refl
      row-says None e = handed.by_row n o s h e converted_part (named_by o.handed s) (parts-say (row_parts (row_of r d s)) (handed.to_parts n o s h e))

    pub entry-says : (n : ℕ) → AllSay n
    entry-says zero o s h = handed.nothing s
    entry-says (suc n) o s h = row-says n (entry-says n) o s h (if_merged (row_of r d s)) refl
