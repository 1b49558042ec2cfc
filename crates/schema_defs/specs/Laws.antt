-- What holds of admission and of reading, whatever the document.
use Rattle.std.specs.Prelude.{◌≡◌, ℕ, ◌<◌, ◌≤◌, ◌^◌, ◌==◌, ◌&&◌, not, map, List, [], ◌∷◌, ◌++◌, length, Bool, false, Option, Some, option_map, decimal, count_by, Contains, Decides, ⊤, ◌↔◌}
use Rattle.std.specs.declared.cmp.Ordering.TheVariants.{Less}
use Rattle.std.specs.Ordering.{nat_cmp}
use Rattle.std.specs.Cmp.Lexicographic.{slice_cmp}
use Rattle.std.specs.List.{list_any, list_all}
use Rattle.json_value.specs.Value as value
use Rattle.json_value.specs.Value.{Value, Items, Members, text, list, values, entries, members, member_at}
use Rattle.schema_defs.specs.declared.Setting.{Setting}
use Rattle.schema_defs.specs.declared.Setting.TheVariants.{Strict}
use Rattle.schema_defs.specs.Location.{Location, place}
use Rattle.schema_defs.specs.Texts.{Relations, IsLawful}
use Rattle.schema_defs.specs.Formats.{has_format}
use Rattle.schema_defs.specs.Schema.{Plain, Schema, boolean, object, Same, Lists, Named, MaybeSchema, the_schema, the_list, Schemas, each_item, schema_list, Document}
use Rattle.schema_defs.specs.Layer.{plain_agrees, if_given, parts_agree, items_agree, contains_agrees, judge_same, judge_all_of, judge_any_of, judge_one_of, judge_not}
use Rattle.schema_defs.specs.Admits.{counts_as_absent, admits, admits_with, parts_of, follow, follows, target, allowed}
use Rattle.schema_defs.specs.Read.{document_of, under, reading, lookup_of, member_readings, is_known}
use Rattle.schema_defs.specs.Children.{Child, same_children, schema_at}
use Rattle.schema_defs.specs.Mapped.{mapped, mapped_document, bare, unwalked}
use Rattle.schema_defs.specs.Walks.{IsGuarded, IsLoop}
use Rattle.schema_defs.specs.References.{is_guarded}

module _ (r : Relations) (d : Document) where
  -- what a reference says of a value
  abbrev pub reference_admits : Value → List ℕ → Bool
  reference_admits v q = follows r d v (parts_of r d v) (allowed d) q

  -- each keyword, in terms of what the schemas that it holds admit
  pub record Unfolds : Type 0 where
    pub booleans : (v : Value) (b : Bool) → admits r d v (boolean b) ≡ b
    pub objects : (v : Value) (p : Plain) (ss : Same) (ls : Lists) (ns : Named)
        → admits r d v (object p ss ls ns)
        ≡ (plain_agrees r p v && if_given (reference_admits v) p.reference && parts_agree r v (parts_of r d v) ls ns && judge_same r v (parts_of r d v) (reference_admits v) ss)
    pub references : (v : Value) (q : List ℕ) → reference_admits v q ≡ follow (admits_with r d (length d.definitions) v) (target d q)
    pub all_of : (v : Value) (ss : Schemas) → judge_all_of r v (parts_of r d v) (reference_admits v) (the_list ss) ≡ list_all (admits r d v) (schema_list ss)
    pub any_of : (v : Value) (ss : Schemas) → judge_any_of r v (parts_of r d v) (reference_admits v) (the_list ss) ≡ list_any (admits r d v) (schema_list ss)
    pub one_of : (v : Value) (ss : Schemas) → judge_one_of r v (parts_of r d v) (reference_admits v) (the_list ss) ≡ (count_by (admits r d v) (schema_list ss) == 1)
    pub negation : (v : Value) (s : Schema) → judge_not r v (parts_of r d v) (reference_admits v) (the_schema s) ≡ not (admits r d v s)
    pub items : (vs : Items) → (parts_of r d (list vs)).items ≡ map (admits r d) (values vs)
    pub each_item : (vs : Items) (s : Schema) (rest : MaybeSchema) → items_agree (parts_of r d (list vs)).items (each_item s) rest ≡ list_all (λ v. admits r d v s) (values vs)
    pub contains : (vs : Items) (s : Schema) → contains_agrees (parts_of r d (list vs)).items (the_schema s) ≡ list_any (λ v. admits r d v s) (values vs)
    pub members : (ms : Members) → (parts_of r d (value.object ms)).members ≡ map (λ e. record { name = e.0; as_absent = counts_as_absent d.setting e.1; says = admits r d e.1 }) (entries ms)
    pub names : (ms : Members) (n : List ℕ) (s : Schema) → (parts_of r d (value.object ms)).name n s ≡ admits r d (text n) s

-- admission is what its keywords say
abbrev pub AdmissionUnfolds : Type 0
AdmissionUnfolds = (r : Relations) (d : Document) → Unfolds r d

-- the title, the description, the default and the walk of a schema change nothing
abbrev pub AnnotationsSayNothing : Type 0
AnnotationsSayNothing =
    (r : Relations) (d : Document) (v : Value) (p : Plain) (ss : Same) (ls : Lists) (ns : Named) (t e : Option (List ℕ)) (w : Option Value) (k : Option (List Location))
    → admits r d v (object (record p { title = t; description = e; default = w; walk = k }) ss ls ns) ≡ admits r d v (object p ss ls ns)

-- at whatever level they stand, annotations and walks change nothing
abbrev pub NoAnnotationMatters : Type 0
NoAnnotationMatters =
    (r : Relations) (d : Document) (v : Value) (s : Schema)
    → (admits r (mapped_document bare d) v (mapped bare s) ≡ admits r d v s) × (admits r (mapped_document unwalked d) v (mapped unwalked s) ≡ admits r d v s)

-- what stands at a keyword is the reading of the member of that name
abbrev pub KeywordsAreMembers : Type 0
KeywordsAreMembers = (n : List ℕ) (ms : Members) → lookup_of (member_readings ms) n ≡ option_map reading (member_at n ms)

-- a member that is no known keyword changes nothing, in a document and in the schemas inside it
abbrev pub UnknownMembersSayNothing : Type 0
UnknownMembersSayNothing =
    ((setting : Setting) (es fs : List (List ℕ × Value)) (k : List ℕ) (v : Value) → is_known k ≡ false
    → document_of setting (value.object (members (es ++ (k, v) ∷ fs))) ≡ document_of setting (value.object (members (es ++ fs))))
    × ((es fs : List (List ℕ × Value)) (k : List ℕ) (v : Value) → is_known k ≡ false
    → (reading (value.object (members (es ++ (k, v) ∷ fs)))).as_schema ≡ (reading (value.object (members (es ++ fs)))).as_schema)

-- a setting changes nothing in what is read but the setting itself
abbrev pub SettingsAreKept : Type 0
SettingsAreKept = (setting : Setting) (v : Value) → document_of setting v ≡ option_map (under setting) (document_of Strict v)

-- the formats as tests make ipv4 texts and ipv6 texts ip texts, whatever the patterns
abbrev pub FormatsAreLawful : Type 0
FormatsAreLawful = (p : List ℕ → Bool) (m : List ℕ → List ℕ → Bool) → IsLawful (record { is_pattern = p; matches = m; has_format = has_format })

-- places that differ have steps that differ; below 2^64 the step is what std writes of the number
abbrev pub PlacesDiffer : Type 0
PlacesDiffer = ((i j : ℕ) → place i ≡ place j → i ≡ j) × ((i : ℕ) → i < 2 ^ 64 → place i ≡ decimal i)

-- a same-value child stands where its steps lead to
abbrev pub ChildrenStand : Type 0
ChildrenStand =
    (d : Document) (l : Location) (s : Schema) (c : Child) → schema_at d l ≡ Some s → Contains (same_children s) c → schema_at d (l ++ c.0) ≡ Some c.1

-- in a guarded document references beyond those allowed change nothing: they are never spent
abbrev pub SpareReferencesSayNothing : Type 0
SpareReferencesSayNothing =
    (r : Relations) (d : Document) → IsGuarded d → (n : ℕ) → allowed d ≤ n → (v : Value) (s : Schema) → admits_with r d n v s ≡ admits r d v s

-- the test decides whether a document is guarded
abbrev pub GuardedIsDecided : Type 0
GuardedIsDecided = (d : Document) → Decides (is_guarded d) (IsGuarded d)

-- whether a document is guarded, and which walks return, doesn't depend on its setting
pub record AreWalkedAlike (d e : Document) : Type 0 where
  pub guarded : IsGuarded d ↔ IsGuarded e
  pub loops : (walk : List Location) → IsLoop d walk ↔ IsLoop e walk

abbrev pub WalksKnowNoSetting : Type 0
WalksKnowNoSetting = (setting : Setting) (d : Document) → AreWalkedAlike (under setting d) d

-- a walk that returns to its first location shows that a document is not guarded
abbrev pub LoopsAreUnguarded : Type 0
LoopsAreUnguarded = (d : Document) (walk : List Location) → IsLoop d walk → ¬ (IsGuarded d)

-- the name stands below the next, compared byte by byte
abbrev pub IsBelowNext : List ℕ → List (List ℕ) → Type 0
IsBelowNext n [] = ⊤
IsBelowNext n (m ∷ ns) = slice_cmp nat_cmp n m ≡ Less

abbrev pub NamesRise : List (List ℕ) → Type 0
NamesRise [] = ⊤
NamesRise (n ∷ ns) = IsBelowNext n ns × NamesRise ns

-- the definitions of a document that was read stand in the order of their names, each name once
abbrev pub DefinitionsRise : Type 0
DefinitionsRise = (setting : Setting) (v : Value) (d : Document) → document_of setting v ≡ Some d → NamesRise (map (λ e. e.name) d.definitions)
