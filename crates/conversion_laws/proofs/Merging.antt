-- What stands in the place of a clean schema whose row merges keeps what the schema says, with as many references left.
use Rattle.std.proofs.Common.{ℕ, ◌≡◌, zero, suc, ◌≤◌, List, [], ◌∷◌, true, false, ◌||◌, Some, refl, arith}
use Rattle.json_value.specs.Value.{Value, is_whole}
use Rattle.schema_defs.specs.Texts.{Relations, IsLawful}
use Rattle.schema_defs.specs.Schema.{ListRules, Schema, boolean, object, Document}
use Rattle.schema_defs.specs.Admits.{allowed, admits, is_root_reference}
use Rattle.schema_defs.specs.Walks.{IsGuarded}
use Rattle.schema_defs.proofs.Spare.{Refs, Refs-weaker, Ends}
use Rattle.convert_defs.specs.Row as row
use Rattle.convert_defs.specs.Row.{Way, narrowed, widened, Part}
use Rattle.convert_defs.specs.Laws.{Keeps, Free}
use Rattle.convert_defs.specs.Proper.{IsProper, AllAreProper, IsProperDocument}
use Rattle.each_schema.specs.Each.{of_any_size}
use Rattle.convert_defs.specs.RootReference.{refers_to_root}
use Rattle.convert_defs.specs.Table.{row_of, notes_at}
use Rattle.convert_defs.proofs.Bare.{none-some}
use Rattle.convert_defs.proofs.KindsKept.{further}
use Rattle.convert_defs.proofs.References.{refs-both}
use Rattle.merge_laws.specs.Laws as fit
use Rattle.merge_laws.specs.Laws.{ProperDocument}
use Rattle.convert_walks.specs.Spot.{Spot}
use Rattle.convert_walks.specs.Merging.{merged_at}
use Rattle.convert_walks.specs.Tree.{Standing, instead, if_merged}
use Rattle.merging_laws.specs.Laws.{row_widens, RowAgrees}
use Rattle.merging_laws.proofs.Whole.{merging_rows_agree}
use Rattle.conversion_laws.specs.Keeping.{SizesAreKept}
use Rattle.conversion_laws.proofs.Throughout.{AnyLists, AnyNamed, refs-of}
use Rattle.conversion_laws.proofs.KeptProper.{Leads, OfLists, to-all, from-all, proper-kept, any-size-kept}
use Rattle.conversion_laws.proofs.KeptNamed.{OfNamed}
use Rattle.conversion_laws.proofs.KeptEnds.{Ending, to-ending, from-ending, ends-kept, into}
use Rattle.conversion_laws.proofs.Standings.{standing-holds}
use Rattle.conversion_laws.proofs.Clean.{IsFree}

none-widen : (ns : List row.Note) → Free widened ns → row_widens ns ≡ false
none-widen [] h = refl
none-widen (n ∷ ns) h = λ i. h.0 i || none-widen ns h.1 i

module _ (d : Document) where
  -- what is known of a reference
  abbrev pub Known : List ℕ → Type 0
  Known q = is_root_reference q ≡ true → refers_to_root d ≡ true

  abbrev pub May : ℕ → List ℕ → Type 0
  May k q = Ending d k q × Known q

  pub known-refs : (s : Schema) → IsProper of_any_size d s → Refs Known s
  known-refs s h = Refs-weaker (Leads d) Known (λ q x. x.1) s (refs-of (Leads d) (OfLists of_any_size d) (OfNamed of_any_size d) s (to-all of_any_size any-size-kept d s h))

  pub may-end : (k : ℕ) (s : Schema) → IsProper of_any_size d s → Ends d k s → Refs (May k) s
  may-end k s h e = refs-both (Ending d k) Known s (to-ending d k s e) (known-refs s h)

  pub ends-of : (k : ℕ) (s : Schema) → Refs (May k) s → Ends d k s
  ends-of k s h = from-ending d k s (Refs-weaker (May k) (Ending d k) (λ q x. x.0) s h)

  pub within : (k e : ℕ) → further k e ≡ allowed d → k ≤ allowed d
  within k e h = by k (allowed d) h
    where
      by : (k m : ℕ) → further k e ≡ m → k ≤ m
      by zero m h = omega arith
      by (suc k) m h = let i = by k (further k e) refl in omega (arith, h, i)

  module _ (r : Relations) (most n : ℕ) (o : Spot) (s : Schema) (qs : List Part) (e : if_merged (row_of r d s) ≡ Some qs) (t : Standing) (i : instead o s (merged_at d most n o s qs) ≡ Some t) where
    pub standing-proper : (sized : ListRules → Type 0) → SizesAreKept sized → AllAreProper sized d → IsProper sized d s → IsProper sized d t.schema
    standing-proper sized kept proper h =
        from-all sized kept d t.schema (standing-holds d (Leads d) (OfLists sized d) (OfNamed sized d) (proper-kept sized kept d proper) most n o r s (to-all sized kept d s h) qs e t i)

    pub standing-in_order : IsProperDocument d → IsProper of_any_size d s → IsProper of_any_size d t.schema
    standing-in_order = standing-proper of_any_size any-size-kept

    pub standing-ends : (k : ℕ) → Ends d k s → Ends d k t.schema
    standing-ends k h = from-ending d k t.schema (refs-of (Ending d k) AnyLists AnyNamed t.schema (standing-holds d (Ending d k) AnyLists AnyNamed (ends-kept d k) most n o r s (into d k s h) qs e t i))

module _ (r : Relations) (lawful : IsLawful r) (d : Document) (guarded : IsGuarded d) (fits : ProperDocument d) (most n : ℕ) (o : Spot) where
  -- at a whole value, and for the sake of what is proper at null
  pub row-agrees : (v : Value) → is_whole v ≡ true → (s : Schema) → fit.IsProper s → (qs : List Part) → if_merged (row_of r d s) ≡ Some qs → (t : Standing) → instead o s (merged_at d most n o s qs) ≡ Some t
      → RowAgrees r d v s (merged_at d most n o s qs) t
  row-agrees v w (boolean true) h qs e t i = none-some qs e
  row-agrees v w (boolean false) h qs e t i = none-some qs e
  row-agrees v w (object p ss ls ns) h qs e t i = merging_rows_agree r lawful d guarded fits v w most n o p ss ls ns h qs e t i

  module _ (way : Way) (in_order : IsProperDocument d) where
    pub row-keeps : (v : Value) (s : Schema) (qs : List Part) (t : Standing) → RowAgrees r d v s (merged_at d most n o s qs) t → Free way (notes_at r d s) → IsFree way r d most (merged_at d most n o s qs) → Keeps way (admits r d v s) (admits r d v t.schema)
    row-keeps v s qs t a f g = by way f g
      where
        by : (way : Way) → Free way (notes_at r d s) → IsFree way r d most (merged_at d most n o s qs) → Keeps way (admits r d v s) (admits r d v t.schema)
        by narrowed f g = a.keeps g
        by widened f g = a.adds_none g (none-widen (notes_at r d s) f)
