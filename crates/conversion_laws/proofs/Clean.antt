-- Clean schemas: in order, without a note of the way, and so is what their rows convert or what stands in their place. Where they are clean, schemas agree with their entries.
use Rattle.std.proofs.Common.{◌≡◌, ℕ, zero, suc, List, Bool, true, false, ◌&&◌, Option, Some, None, refl}
use Rattle.std.specs.Prelude.{◌==◌}
use Rattle.schema_defs.specs.Location.{Step}
use Rattle.json_value.specs.Value.{Value}
use Rattle.schema_defs.specs.Texts.{Relations}
use Rattle.schema_defs.specs.Schema.{Types, Schema, boolean, object, Same, no_same, same_value, MaybeSchemas, no_list, the_list, Schemas, no_more, schema, Document}
use Rattle.schema_defs.specs.Layer.{Parts, types_agree, judge, judge_any, judge_count}
use Rattle.schema_defs.specs.Admits.{target}
use Rattle.schema_defs.proofs.Spare.{Refs}
use Rattle.model_defs.specs.Layer as model
use Rattle.entry_defs.specs.Entry.{Target, Entry}
use Rattle.entry_defs.specs.Layer as entry
use Rattle.enum_defs.specs.Exclusive.{exclusive}
use Rattle.enum_defs.specs.Kinds.{null_free}
use Rattle.convert_defs.specs.Row.{Way, narrowed, widened, Part, child, of_branch, lone, made, row_parts}
use Rattle.convert_defs.specs.Apart.{is_apart, all_apart, members_apart, branches_apart}
use Rattle.convert_defs.specs.Shapes.{schemas_of, members_from}
use Rattle.convert_defs.specs.Standing.{wanted}
use Rattle.convert_defs.specs.Table.{finding_of, row_of, notes_at, target_of, types_of_schema}
use Rattle.convert_defs.specs.Convert.{named_by}
use Rattle.convert_defs.specs.Laws.{Keeps, Free, HasNamesApart}
use Rattle.convert_defs.specs.Proper.{IsProper, ProperSame, ProperMembers, AllProper}
use Rattle.each_schema.specs.Each.{of_any_size}
use Rattle.convert_defs.proofs.Keeps.{keep-then, keep-to}
use Rattle.convert_defs.proofs.Rows.{IsMade, IsSound, parts-weaker}
use Rattle.convert_defs.proofs.Scalars.{Agrees}
use Rattle.convert_defs.proofs.Views.{View, AllParts}
use Rattle.merge_defs.specs.Outcome as merge
use Rattle.merge_defs.specs.Outcome.{Outcome, has_way}
use Rattle.merge_laws.specs.Laws as fit
use Rattle.convert_walks.specs.Spot.{Spot, Branches, part_spot, part_schema}
use Rattle.convert_walks.specs.Merging.{merged_at}
use Rattle.convert_walks.specs.Tree.{Standing, instead, if_merged, standing_entry, row_entry, entry_at}
use Rattle.merging_laws.specs.Laws.{notes_told}
use Rattle.conversion_laws.proofs.Layer.{layer-agrees, renamed}

-- ---- names differ in the schema and in its branches

module _ (d : Document) where
  one-apart : (s : Schema) → IsProper of_any_size d s → is_apart s ≡ true
  one-apart (boolean b) h = refl
  one-apart (object p ss ls ns) h = h.0.apart

  all-are-apart : (ss : Schemas) → AllProper of_any_size d ss → all_apart ss ≡ true
  all-are-apart no_more h = refl
  all-are-apart (schema s ss) h = λ i. one-apart s h.0 i && all-are-apart ss h.1 i

  members-are-apart : (m : MaybeSchemas) → ProperMembers of_any_size d m → members_apart m ≡ true
  members-are-apart no_list h = refl
  members-are-apart (the_list ss) h = all-are-apart ss h

  branches-are-apart : (ss : Same) → ProperSame of_any_size d ss → branches_apart ss ≡ true
  branches-are-apart no_same h = refl
  branches-are-apart (same_value all any one none c) h = λ i. members-are-apart any h.1 i && members-are-apart one h.2 i

  pub names-are-apart : (s : Schema) → IsProper of_any_size d s → HasNamesApart s
  names-are-apart (boolean b) h = tt
  names-are-apart (object p ss ls ns) h = λ i. h.0.apart i && branches-are-apart ss h.1 i

-- ---- clean schemas

abbrev pub merge_way : Way → merge.Way
merge_way narrowed = merge.narrowed
merge_way widened = merge.widened

module _ (way : Way) (r : Relations) (d : Document) (most : ℕ) where
  pub record IsGood (s : Schema) : Type 0 where
    pub in_order : IsProper of_any_size d s
    pub mergeable : fit.IsProper s
    pub free : Free way (notes_at r d s)

  -- no note of that way
  abbrev pub IsFree : Outcome Schema → Type 0
  IsFree m = has_way (merge_way way) (notes_told m) ≡ false

  abbrev pub CleanStanding : (Spot → Schema → Type 0) → Option Standing → Type 0
  CleanStanding C None = ⊥
  CleanStanding C (Some t) = C t.spot t.schema

  abbrev pub CleanRow : ℕ → (Spot → Schema → Type 0) → Spot → Schema → Option (List Part) → Type 0
  CleanRow n C o s (Some ps) = IsFree (merged_at d most n o s ps) × CleanStanding C (instead o s (merged_at d most n o s ps))
  CleanRow n C o s None = IsMade (row_of r d s) × AllParts (λ p. C (part_spot o (finding_of r d s).branches p) (part_schema p)) (row_parts (row_of r d s))

  abbrev pub Clean : ℕ → Spot → Schema → Type 0
  Clean zero o s = ⊥
  Clean (suc n) o s = IsGood s × CleanRow n (λ o s. Clean n o s) o s (if_merged (row_of r d s))

  -- s is converted to e
  abbrev pub R : Schema → Entry → Type 0
  R s e = (n : ℕ) × (o : Spot) × Clean n o s × (e ≡ entry_at r d most n o s)

  pub good : (s : Schema) (e : Entry) → R s e → IsGood s
  good s e (zero, o, c, q) = absurd c
  good s e (suc n, o, c, q) = c.0

  module _ (P : List ℕ → Type 0) (fol : List ℕ → Bool) (tgt : Target → Bool) (v : Value) (ps : Parts) (es : model.Parts entry.Judge) (w : View way d.setting R r v ps es)
      (refs : (q : List ℕ) (t : Target) → P q → target_of q ≡ Some t → Keeps way (fol q) (tgt t))
      (ref_types : (q : List ℕ) (ts : Types) → types_of_schema (target d q) ≡ Some ts → fol q ≡ true → types_agree v ts ≡ true)
      (ex : (k : Step) (us : Schemas) → exclusive d (schemas_of (members_from k 0 us)) ≡ true → judge_any r v ps fol us ≡ true → (judge_count r v ps fol us == 1) ≡ true)
      (nf : (s : Schema) → null_free d s ≡ true → judge r v ps fol s ≡ true → model.is_null v ≡ false)
      (merges : (n : ℕ) (o : Spot) (s : Schema) (qs : List Part) → if_merged (row_of r d s) ≡ Some qs → IsGood s → IsFree (merged_at d most n o s qs) → (t : Standing) → instead o s (merged_at d most n o s qs) ≡ Some t
      → Refs P s → Refs P t.schema × Keeps way (judge r v ps fol s) (judge r v ps fol t.schema)) where
    abbrev Same_ : Schema → Entry → Type 0
    Same_ s e = Agrees way d.setting R r fol tgt v ps es s e

    pub agree-at : (n : ℕ) (o : Spot) (s : Schema) → Clean n o s → Refs P s → Same_ s (entry_at r d most n o s)
    agree-at zero o s c g = absurd c
    agree-at (suc n) o s c g = by (if_merged (row_of r d s)) refl c.1 (agree-at n)
      where
        ms : Branches
        ms = (finding_of r d s).branches

        conv : Part → Entry
        conv p = entry_at r d most n (part_spot o ms p) (part_schema p)

        sound : ((o : Spot) (s : Schema) → Clean n o s → Refs P s → Same_ s (entry_at r d most n o s)) → (p : Part) → Clean n (part_spot o ms p) (part_schema p) → IsSound way P d.setting R conv r fol tgt v ps es w p
        sound f (child k u) c = ((n, part_spot o ms (child k u), c, refl), f (part_spot o ms (child k u)) u c)
        sound f (of_branch k u) c = ((n, part_spot o ms (of_branch k u), c, refl), f (part_spot o ms (of_branch k u)) u c)
        sound f (lone k u) c = ((n, part_spot o ms (lone k u), c, refl), f (part_spot o ms (lone k u)) u c)
        sound f (made u) c = ((n, o, c, refl), f o u c)

        standing : ((o : Spot) (s : Schema) → Clean n o s → Refs P s → Same_ s (entry_at r d most n o s)) → (qs : List Part) → if_merged (row_of r d s) ≡ Some qs → IsFree (merged_at d most n o s qs)
            → (y : Option Standing) → instead o s (merged_at d most n o s qs) ≡ y → CleanStanding (λ o s. Clean n o s) y → Same_ s (standing_entry r d most n (λ o s. entry_at r d most n o s) y)
        standing f qs e free None i x = absurd x
        standing f qs e free (Some t) i x = let z = merges n o s qs e c.0 free t i g in keep-then way _ _ _ z.1 (f t.spot t.schema x z.0)

        by : (x : Option (List Part)) → if_merged (row_of r d s) ≡ x → CleanRow n (λ o s. Clean n o s) o s x → ((o : Spot) (s : Schema) → Clean n o s → Refs P s → Same_ s (entry_at r d most n o s))
            → Same_ s (row_entry r d most n (λ o s. entry_at r d most n o s) o s ms (row_of r d s) x)
        by (Some qs) e x f = standing f qs e x.0 (instead o s (merged_at d most n o s qs)) refl x.1
        by None e x f =
            keep-to way _ _ _
            (layer-agrees way r d R P fol tgt v ps es w refs ref_types ex nf conv s (names-are-apart d s c.0.in_order) g (c.0.free, x.0) (parts-weaker _ _ (sound f) (row_parts (row_of r d s)) x.1))
            (renamed way r d R P fol tgt v ps es w conv (wanted s) (named_by o.handed s) (row_of r d s))
