-- Whatever schema stands at a location of a document that was read is what the value there is read as.
use Rattle.std.proofs.Common.{◌≡◌, ℕ, suc, List, [], ◌∷◌, Option, Some, None, option_map, Ordering, Less, Equal, Greater, Bool, true, false, bytes_eq, true≢false, refl, sym, ap, subst, ◌∙◌, inl, inr}
use Rattle.std.specs.Prelude.{Contains, ◌⊎◌, option_and_then, unwrap_or, codes, if◌then◌else◌}
use Rattle.std.specs.Ordering.{nat_cmp, match_ordering}
use Rattle.std.specs.Cmp.Lexicographic.{slice_cmp}
use Rattle.std.proofs.lemmas.Slice.Eq.{bytes_eq-Decides}
use Rattle.json_value.specs.Value as value
use Rattle.json_value.specs.Value.{Value, Items, Members, null, number, fraction, text, list, item, no_items, member, no_members, member_at, same_bool}
use Rattle.schema_defs.specs.Location.{Step, Location, place}
use Rattle.schema_defs.specs.Schema.{Schema, boolean, Schemas, schema, Properties, no_properties, property, MaybeSchema, no_schema, the_schema, Definition, Document}
use Rattle.schema_defs.specs.Layer.{property_at}
use Rattle.schema_defs.specs.Admits.{defined, definition_word}
use Rattle.schema_defs.specs.Children.{Node as Spot, at_document, at_definitions, at_schema, at_list, at_names, maybe_node, definition_node, schema_in, schema_node, node_at, along, node_schema}
use Rattle.schema_defs.specs.declared.Setting.{Setting}
use Rattle.schema_defs.specs.Read.{◌⊛◌, Reading, Lookup, lookup_of, reading, item_readings, member_readings, keyword, schema_of, schemas_of, properties_of, with_definition, with_definitions, joined, definitions_of, make_document, document_of}
use Rattle.schema_defs.specs.Laws.{NamesRise}
use Rattle.schema_defs.proofs.Stand.{none_in, first_or_rest, first_in, rest_in, some_same, none_is_not}
use Rattle.schema_defs.proofs.Unknown.{keywords_are_members}
use Rattle.schema_defs.proofs.Rising.{definitions_rise}
use Rattle.schema_laws.specs.ValueAt.{item_at, part_at, value_at}
use Rattle.schema_laws.specs.Laws.{LocationsAreRead}
use Rattle.schema_laws.proofs.Options.{IfThere, mapped, followed, flattened, taken2, turned, with_answer}
use Rattle.schema_laws.proofs.Leads.{as_named}
use Rattle.schema_laws.proofs.Located.{definition, no_such, same_schema, none_joined, Stands, definitions_stand, names, found}
use Rattle.schema_laws.proofs.Origins.{Origin, Made, made, from_some, origins}

abbrev ReadFrom : Option Value → Schema → Type 0
ReadFrom o s = (w : Value) × (o ≡ Some w) × ((reading w).as_schema ≡ Some s)

-- ---- lists and names

by_test : (b : Bool) (v : Value) (s t : Schema) (m : MaybeSchema) (o : Option Value) → (reading v).as_schema ≡ Some s → (m ≡ the_schema t → ReadFrom o t) → (if b then the_schema s else m) ≡ the_schema t → ReadFrom (if b then Some v else o) t
by_test true v s t m o e h f = (v, refl, e ∙ ap Some (same_schema s t f))
by_test false v s t m o e h f = h f

abbrev ItemsFrom : ℕ → Items → Schemas → Type 0
ItemsFrom i vs ss = (k : Step) (t : Schema) → schema_in k i ss ≡ the_schema t → ReadFrom (item_at k i vs) t

items_from : (vs : Items) (i : ℕ) → IfThere (ItemsFrom i vs) (schemas_of (item_readings vs))
items_from no_items i = λ k t e. absurd (no_such t e)
items_from (item v vs) i =
    taken2 (λ s. (reading v).as_schema ≡ Some s) (ItemsFrom (suc i) vs) (ItemsFrom i (item v vs)) (Some (λ (s : Schema) (ss : Schemas). schema s ss)) (reading v).as_schema (schemas_of (item_readings vs))
    (λ s e ss h k t. by_test (bytes_eq k (place i)) v s t (schema_in k (suc i) ss) (item_at k (suc i) vs) e (h k t))
    (with_answer (λ s. (reading v).as_schema ≡ Some s) (reading v).as_schema (λ s e. e)) (items_from vs (suc i))

abbrev MembersFrom : Members → Properties → Type 0
MembersFrom ms ps = (k : Step) (t : Schema) → property_at k ps ≡ the_schema t → ReadFrom (member_at k ms) t

members_from : (ms : Members) → IfThere (MembersFrom ms) (properties_of (member_readings ms))
members_from no_members = λ k t e. absurd (no_such t e)
members_from (member n v ms) =
    taken2 (λ s. (reading v).as_schema ≡ Some s) (MembersFrom ms) (MembersFrom (member n v ms)) (Some (λ (s : Schema) (ps : Properties). property n s ps)) (reading v).as_schema (properties_of (member_readings ms))
    (λ s e ps h k t. by_test (bytes_eq k n) v s t (property_at k ps) (member_at k ms) e (h k t))
    (with_answer (λ s. (reading v).as_schema ≡ Some s) (reading v).as_schema (λ s e. e)) (members_from ms)

from_list : (w : Value) (ss : Schemas) → (reading w).as_list ≡ Some ss → (k : Step) (t : Schema) → schema_in k 0 ss ≡ the_schema t → ReadFrom (part_at k w) t
from_list null ss e k t f = absurd (none_is_not ss e)
from_list (value.boolean b) ss e k t f = absurd (none_is_not ss e)
from_list (number z) ss e k t f = absurd (none_is_not ss e)
from_list fraction ss e k t f = absurd (none_is_not ss e)
from_list (text s) ss e k t f = absurd (none_is_not ss e)
from_list (list xs) ss e k t f = subst (IfThere (ItemsFrom 0 xs)) e (items_from xs 0) k t f
from_list (value.object ms) ss e k t f = absurd (none_is_not ss e)

from_names : (w : Value) (ps : Properties) → (reading w).as_named ≡ Some ps → (k : Step) (t : Schema) → property_at k ps ≡ the_schema t → ReadFrom (part_at k w) t
from_names null ps e k t f = absurd (none_is_not ps e)
from_names (value.boolean b) ps e k t f = absurd (none_is_not ps e)
from_names (number z) ps e k t f = absurd (none_is_not ps e)
from_names fraction ps e k t f = absurd (none_is_not ps e)
from_names (text s) ps e k t f = absurd (none_is_not ps e)
from_names (list xs) ps e k t f = absurd (none_is_not ps e)
from_names (value.object ms) ps e k t f = subst (IfThere (MembersFrom ms)) e (members_from ms) k t f

-- ---- spots

-- what a spot of the document was read from, where it stands
abbrev From : Option Value → Spot → Type 0
From o (at_document d) = (w : Value) × (setting : Setting) × (o ≡ Some w) × (document_of setting w ≡ Some d)
From o (at_definitions b d) = (k : Step) (s : Schema) → definition_node b (defined k d.definitions) ≡ Some (at_schema s) → ReadFrom (option_and_then (part_at k) o) s
From o (at_schema s) = ReadFrom o s
From o (at_list ss) = (w : Value) × (o ≡ Some w) × ((reading w).as_list ≡ Some ss)
From o (at_names ps) = (k : Step) (s : Schema) → property_at k ps ≡ the_schema s → ReadFrom (option_and_then (part_at k) o) s

unmapped : (o : Option Value) (r : Reading) → option_map reading o ≡ Some r → (w : Value) × (o ≡ Some w) × (reading w ≡ r)
unmapped None r e = absurd (none_is_not r e)
unmapped (Some w) r e = (w, refl, some_same (reading w) r e)

from_origin : (o : Option Value) (m : Spot) → Origin (option_map reading o) m → From o m
from_origin o (at_document d) h = absurd h
from_origin o (at_definitions b d) h = absurd h
from_origin o (at_schema s) h = let t = unmapped o h.0 h.1 in (t.0, t.1, ap (λ r. r.as_schema) t.2 ∙ h.2)
from_origin o (at_list ss) h = let t = unmapped o h.0 h.1 in (t.0, t.1, ap (λ r. r.as_list) t.2 ∙ h.2)
from_origin o (at_names ps) h = λ k s e.
    let g = h k s e in
    let t = unmapped o g.0 g.2 in
    subst (λ o. ReadFrom (option_and_then (part_at k) o) s) (sym t.1) (from_names t.0 g.1 (ap (λ r. r.as_named) t.2 ∙ g.3) k s g.4)

from_look : (ms : Members) (k : Step) (m : Spot) → Origin (lookup_of (member_readings ms) k) m → From (member_at k ms) m
from_look ms k m h = from_origin (member_at k ms) m (subst (λ o. Origin o m) (keywords_are_members k ms) h)

object_step : (ms : Members) (s : Schema) → schema_of (lookup_of (member_readings ms)) ≡ Some s → (k : Step) (m : Spot) → schema_node k s ≡ Some m → From (member_at k ms) m
object_step ms s e k m f = from_look ms k m (subst (IfThere (λ s. (k : Step) (m : Spot) → schema_node k s ≡ Some m → Origin (lookup_of (member_readings ms) k) m)) e (origins (lookup_of (member_readings ms))) k m f)

schema_step : (w : Value) (s : Schema) → (reading w).as_schema ≡ Some s → (k : Step) (m : Spot) → schema_node k s ≡ Some m → From (part_at k w) m
schema_step null s e k m f = absurd (none_is_not s e)
schema_step (value.boolean b) s e k m f = absurd (none_is_not m (ap (schema_node k) (some_same (boolean b) s e) ∙ f))
schema_step (number z) s e k m f = absurd (none_is_not s e)
schema_step fraction s e k m f = absurd (none_is_not s e)
schema_step (text t) s e k m f = absurd (none_is_not s e)
schema_step (list xs) s e k m f = absurd (none_is_not s e)
schema_step (value.object ms) s e k m f = object_step ms s e k m f

-- ---- definitions

-- the definition stands under that keyword, and its name among these
abbrev IsNamed : Bool → Properties → Definition → Type 0
IsNamed b ps x = (x.under_defs ≡ b) × ((t : Schema) × (property_at x.name ps ≡ the_schema t))

abbrev NewOrOld : Definition → List Definition → List Definition → Type 0
NewOrOld e ds es = (x : Definition) → Contains es x → (x ≡ e) ⊎ Contains ds x

inserted : (e : Definition) (ds : List Definition) → IfThere (NewOrOld e ds) (with_definition e ds)
inserted e [] = λ x c. elim (first_or_rest e [] x c) [ inl q ↦ inl (sym q) | inr g ↦ inr g ]
inserted e (d ∷ ds) = by_order (slice_cmp nat_cmp e.name d.name) (with_definition e ds) (inserted e ds)
  where
    later : (x : Definition) → (x ≡ e) ⊎ Contains ds x → (x ≡ e) ⊎ Contains (d ∷ ds) x
    later x (inl q) = inl q
    later x (inr g) = inr (rest_in d ds x g)

    put : (es : List Definition) → NewOrOld e ds es → NewOrOld e (d ∷ ds) (d ∷ es)
    put es h x c = elim (first_or_rest d es x c) [ inl q ↦ inr (subst (Contains (d ∷ ds)) q (first_in d ds)) | inr g ↦ later x (h x g) ]

    by_order : (c : Ordering) (o : Option (List Definition)) → IfThere (NewOrOld e ds) o → IfThere (NewOrOld e (d ∷ ds)) (match_ordering c (Some (e ∷ d ∷ ds)) None (option_map (λ es. d ∷ es) o))
    by_order Less o h = λ x c. elim (first_or_rest e (d ∷ ds) x c) [ inl q ↦ inl (sym q) | inr g ↦ inr g ]
    by_order Equal o h = tt
    by_order Greater o h = mapped (NewOrOld e ds) (NewOrOld e (d ∷ ds)) (λ es. d ∷ es) o h put

abbrev NamedOrOld : Bool → Properties → List Definition → List Definition → Type 0
NamedOrOld b ps ds es = (x : Definition) → Contains es x → IsNamed b ps x ⊎ Contains ds x

found_too : (n k : List ℕ) (s t : Schema) (ps : Properties) → property_at n ps ≡ the_schema t → (b : Bool) → (u : Schema) × ((if b then the_schema s else property_at n ps) ≡ the_schema u)
found_too n k s t ps e true = (s, refl)
found_too n k s t ps e false = (t, e)

named_before : (b : Bool) (k : List ℕ) (s : Schema) (ps : Properties) (ds : List Definition) (x : Definition) → IsNamed b ps x ⊎ Contains ds x → IsNamed b (property k s ps) x ⊎ Contains ds x
named_before b k s ps ds x (inl h) = inl (h.0, found_too x.name k s h.1.0 ps h.1.1 (bytes_eq x.name k))
named_before b k s ps ds x (inr c) = inr c

named_now : (b : Bool) (k : List ℕ) (s : Schema) (ps : Properties) (x : Definition) → x ≡ definition b k s → IsNamed b (property k s ps) x
named_now b k s ps x e = subst (IsNamed b (property k s ps)) (sym e) (refl, (s, ap (λ q. if q then the_schema s else property_at k ps) ((bytes_eq-Decides k k).1 refl)))

with_all : (b : Bool) (ps : Properties) (ds : List Definition) → IfThere (NamedOrOld b ps ds) (with_definitions b ps (Some ds))
with_all b no_properties ds = λ x c. inr c
with_all b (property k s ps) ds =
    followed (NamedOrOld b ps ds) (NamedOrOld b (property k s ps) ds) (with_definition (definition b k s)) (with_definitions b ps (Some ds)) (with_all b ps ds)
    (λ es h. turned (NewOrOld (definition b k s) es) (NamedOrOld b (property k s ps) ds) (with_definition (definition b k s) es) (inserted (definition b k s) es)
    (λ fs g x c. elim (g x c) [ inl q ↦ inl (named_now b k s ps x q) | inr f ↦ named_before b k s ps ds x (h x f) ]))

abbrev Either : Properties → Properties → List Definition → Type 0
Either qs ps es = (x : Definition) → Contains es x → IsNamed true qs x ⊎ IsNamed false ps x

then_true : (qs ps : Properties) (o : Option (List Definition)) → IfThere (λ ds. (x : Definition) → Contains ds x → IsNamed false ps x) o → IfThere (Either qs ps) (with_definitions true qs o)
then_true qs ps None h = subst (IfThere (Either qs ps)) (sym (none_joined true qs)) tt
then_true qs ps (Some ds) h =
    turned (NamedOrOld true qs ds) (Either qs ps) (with_definitions true qs (Some ds)) (with_all true qs ds) (λ es g x c. elim (g x c) [ inl i ↦ inl i | inr f ↦ inr (h x f) ])

joined_from : (x y : Option Properties) → IfThere (Either (unwrap_or y no_properties) (unwrap_or x no_properties)) (joined x y)
joined_from x y =
    then_true (unwrap_or y no_properties) (unwrap_or x no_properties) (with_definitions false (unwrap_or x no_properties) (Some []))
    (turned (NamedOrOld false (unwrap_or x no_properties) []) (λ ds. (z : Definition) → Contains ds z → IsNamed false (unwrap_or x no_properties) z) (with_definitions false (unwrap_or x no_properties) (Some [])) (with_all false (unwrap_or x no_properties) [])
    (λ es g z c. elim (g z c) [ inl i ↦ i | inr f ↦ absurd (none_in z f) ]))

-- the definition was read from a member under its keyword
abbrev HasMember : Lookup → Definition → Type 0
HasMember look x = (r : Reading) × (qs : Properties) × (look (definition_word x.under_defs) ≡ Some r) × (r.as_named ≡ Some qs) × ((t : Schema) × (property_at x.name qs ≡ the_schema t))

has_member : (look : Lookup) (b : Bool) (a : Option Properties) → Made (look (definition_word b)) as_named a → (x : Definition) → IsNamed b (unwrap_or a no_properties) x → HasMember look x
has_member look b None h x n = absurd (no_such n.1.0 n.1.1)
has_member look b (Some ps) h x n =
    let t = from_some (look (definition_word b)) as_named ps h in (t.0, ps, ap (λ b. look (definition_word b)) n.0 ∙ t.1, t.2, n.1)

abbrev AllHaveMembers : Lookup → List Definition → Type 0
AllHaveMembers look ds = (x : Definition) → Contains ds x → HasMember look x

definitions_from : (look : Lookup) → IfThere (AllHaveMembers look) (definitions_of look)
unfolding definitions_of
definitions_from look =
    flattened (AllHaveMembers look) (Some joined ⊛ keyword (codes "definitions") as_named look ⊛ keyword (codes "$defs") as_named look)
    (taken2 (Made (look (codes "definitions")) as_named) (Made (look (codes "$defs")) as_named) (IfThere (AllHaveMembers look)) (Some joined)
    (keyword (codes "definitions") as_named look) (keyword (codes "$defs") as_named look)
    (λ x p y q.
    turned (Either (unwrap_or y no_properties) (unwrap_or x no_properties)) (AllHaveMembers look) (joined x y) (joined_from x y)
    (λ es g z c. elim (g z c) [ inl n ↦ has_member look true y q z n | inr n ↦ has_member look false x p z n ]))
    (made (codes "definitions") as_named look) (made (codes "$defs") as_named look))

-- what is found by a name stands among the definitions and has the name
defined_in : (k : Step) (ds : List Definition) (e : Definition) → defined k ds ≡ Some e → Contains ds e × (k ≡ e.name)
defined_in k [] e h = absurd (none_is_not e h)
defined_in k (d ∷ ds) e h = at_name (bytes_eq k d.name) refl h (defined_in k ds e)
  where
    at_name : (b : Bool) → bytes_eq k d.name ≡ b → (if b then Some d else defined k ds) ≡ Some e → (defined k ds ≡ Some e → Contains ds e × (k ≡ e.name)) → Contains (d ∷ ds) e × (k ≡ e.name)
    at_name true q f rest = let same = some_same d e f in (subst (Contains (d ∷ ds)) same (first_in d ds), (bytes_eq-Decides k d.name).0 q ∙ ap (λ d. d.name) same)
    at_name false q f rest = let r = rest f in (rest_in d ds e r.0, r.1)

same_kind : (a b : Bool) → same_bool a b ≡ true → a ≡ b
same_kind true true h = refl
same_kind true false h = absurd (true≢false (sym h))
same_kind false true h = absurd (true≢false (sym h))
same_kind false false h = refl

body_of : (b : Bool) (o : Option Definition) (s : Schema) → definition_node b o ≡ Some (at_schema s) → (e : Definition) × (o ≡ Some e) × (e.under_defs ≡ b) × (e.body ≡ s)
body_of b None s h = absurd (none_is_not (at_schema s) h)
body_of b (Some e) s h = at_kind (same_bool e.under_defs b) refl h
  where
    at_kind : (q : Bool) → same_bool e.under_defs b ≡ q → (if q then Some (at_schema e.body) else None) ≡ Some (at_schema s) → (x : Definition) × (Some e ≡ Some x) × (x.under_defs ≡ b) × (x.body ≡ s)
    at_kind true q f = (e, refl, same_kind e.under_defs b q, ap (λ m. elim m [ at_schema t ↦ t | _ ↦ s ]) (some_same (at_schema e.body) (at_schema s) f))
    at_kind false q f = absurd (none_is_not (at_schema s) f)

module _ (ms : Members) (d : Document) (rise : NamesRise (names d.definitions)) (from : AllHaveMembers (lookup_of (member_readings ms)) d.definitions)
    (stand : Stands true (lookup_of (member_readings ms) (codes "$defs")) d.definitions × Stands false (lookup_of (member_readings ms) (codes "definitions")) d.definitions) where
  stands_at : (b : Bool) → Stands b (lookup_of (member_readings ms) (definition_word b)) d.definitions
  stands_at true = stand.0
  stands_at false = stand.1

  definition_from : (x : Definition) → Contains d.definitions x → ReadFrom (option_and_then (part_at x.name) (member_at (definition_word x.under_defs) ms)) x.body
  definition_from x c =
      let h = from x c in
      let g = stands_at x.under_defs h.0 h.2 in
      let t = unmapped (member_at (definition_word x.under_defs) ms) h.0 (sym (keywords_are_members (definition_word x.under_defs) ms) ∙ h.2) in
      let same_names : g.0 ≡ h.1 = some_same g.0 h.1 (sym g.1 ∙ h.3) in
      let again = g.2 x.name h.4.0 (ap (property_at x.name) same_names ∙ h.4.1) in
      let same : definition x.under_defs x.name h.4.0 ≡ x = some_same _ x (sym (found d.definitions rise (definition x.under_defs x.name h.4.0) again) ∙ found d.definitions rise x c) in
      subst (λ o. ReadFrom (option_and_then (part_at x.name) o) x.body) (sym t.1)
      (subst (ReadFrom (part_at x.name t.0)) (ap (λ x. x.body) same) (from_names t.0 h.1 (ap (λ r. r.as_named) t.2 ∙ h.3) x.name h.4.0 h.4.1))

  definitions_spot : (b : Bool) → From (member_at (definition_word b) ms) (at_definitions b d)
  definitions_spot b k s e =
      let r = body_of b (defined k d.definitions) s e in
      let i = defined_in k d.definitions r.0 r.1 in
      subst (λ s. ReadFrom (option_and_then (part_at k) (member_at (definition_word b) ms)) s) r.3
      (subst (λ b. ReadFrom (option_and_then (part_at k) (member_at (definition_word b) ms)) r.0.body) r.2
      (subst (λ k. ReadFrom (option_and_then (part_at k) (member_at (definition_word r.0.under_defs) ms)) r.0.body) (sym i.1) (definition_from r.0 i.0)))

  word_spot : (b : Bool) (k : Step) (m : Spot) → bytes_eq k (definition_word b) ≡ true → Some (at_definitions b d) ≡ Some m → From (member_at k ms) m
  word_spot b k m q e =
      subst (From (member_at k ms)) (some_same (at_definitions b d) m e) (subst (λ k. From (member_at k ms) (at_definitions b d)) (sym ((bytes_eq-Decides k (definition_word b)).0 q)) (definitions_spot b))

  root_step : schema_of (lookup_of (member_readings ms)) ≡ Some d.root → (k : Step) (m : Spot) → node_at k (at_document d) ≡ Some m → From (member_at k ms) m
  root_step s k m e = at_first (bytes_eq k (definition_word false)) refl e
    where
      at_second : (b : Bool) → bytes_eq k (definition_word true) ≡ b → (if b then Some (at_definitions true d) else schema_node k d.root) ≡ Some m → From (member_at k ms) m
      at_second true q f = word_spot true k m q f
      at_second false q f = object_step ms d.root s k m f

      at_first : (b : Bool) → bytes_eq k (definition_word false) ≡ b → (if b then Some (at_definitions false d) else (if bytes_eq k (definition_word true) then Some (at_definitions true d) else schema_node k d.root)) ≡ Some m → From (member_at k ms) m
      at_first true q f = word_spot false k m q f
      at_first false q f = at_second (bytes_eq k (definition_word true)) refl f

-- ---- documents

abbrev RootFrom : Members → Document → Type 0
RootFrom ms d = (schema_of (lookup_of (member_readings ms)) ≡ Some d.root) × (NamesRise (names d.definitions) → (k : Step) (m : Spot) → node_at k (at_document d) ≡ Some m → From (member_at k ms) m)

root_from : (setting : Setting) (ms : Members) → IfThere (RootFrom ms) (document_of setting (value.object ms))
unfolding document_of
root_from setting ms =
    taken2 (λ s. schema_of (lookup_of (member_readings ms)) ≡ Some s)
    (λ ds. AllHaveMembers (lookup_of (member_readings ms)) ds × (Stands true (lookup_of (member_readings ms) (codes "$defs")) ds × Stands false (lookup_of (member_readings ms) (codes "definitions")) ds))
    (RootFrom ms) (Some (make_document setting)) (schema_of (lookup_of (member_readings ms))) (definitions_of (lookup_of (member_readings ms)))
    (λ s e ds i. (e, λ rise. root_step ms (make_document setting s ds) rise i.0 i.1 e))
    (with_answer (λ s. schema_of (lookup_of (member_readings ms)) ≡ Some s) (schema_of (lookup_of (member_readings ms))) (λ s e. e))
    (two (AllHaveMembers (lookup_of (member_readings ms))) (λ ds. Stands true (lookup_of (member_readings ms) (codes "$defs")) ds × Stands false (lookup_of (member_readings ms) (codes "definitions")) ds)
    (definitions_of (lookup_of (member_readings ms))) (definitions_from (lookup_of (member_readings ms))) (definitions_stand (lookup_of (member_readings ms))))
  where
    two : {A : Type 0} (P Q : A → Type 0) (o : Option A) → IfThere P o → IfThere Q o → IfThere (λ x. P x × Q x) o
    two P Q None h g = tt
    two P Q (Some x) h g = (h, g)

root_is : (setting : Setting) (w : Value) (d : Document) → document_of setting w ≡ Some d → (reading w).as_schema ≡ Some d.root
unfolding document_of
root_is setting null d e = absurd (none_is_not d e)
root_is setting (value.boolean b) d e = ap (λ d. Some d.root) (some_same (make_document setting (boolean b) []) d e)
root_is setting (number z) d e = absurd (none_is_not d e)
root_is setting fraction d e = absurd (none_is_not d e)
root_is setting (text s) d e = absurd (none_is_not d e)
root_is setting (list xs) d e = absurd (none_is_not d e)
root_is setting (value.object ms) d e = (subst (IfThere (RootFrom ms)) e (root_from setting ms)).0

boolean_step : (setting : Setting) (b : Bool) (k : Step) (m : Spot) → node_at k (at_document (make_document setting (boolean b) [])) ≡ Some m → From None m
boolean_step setting b k m e = at_words (bytes_eq k (definition_word false)) (bytes_eq k (definition_word true)) e
  where
    no_definition : (c : Bool) → From None (at_definitions c (make_document setting (boolean b) []))
    no_definition c k s f = absurd (none_is_not (at_schema s) f)

    at_words : (p q : Bool) → (if p then Some (at_definitions false (make_document setting (boolean b) [])) else (if q then Some (at_definitions true (make_document setting (boolean b) [])) else None)) ≡ Some m → From None m
    at_words true q f = subst (From None) (some_same _ m f) (no_definition false)
    at_words false true f = subst (From None) (some_same _ m f) (no_definition true)
    at_words false false f = absurd (none_is_not m f)

document_step : (setting : Setting) (w : Value) (d : Document) → document_of setting w ≡ Some d → (k : Step) (m : Spot) → node_at k (at_document d) ≡ Some m → From (part_at k w) m
unfolding document_of
document_step setting null d e k m f = absurd (none_is_not d e)
document_step setting (value.boolean b) d e k m f = boolean_step setting b k m (subst (λ d. node_at k (at_document d) ≡ Some m) (sym (some_same (make_document setting (boolean b) []) d e)) f)
document_step setting (number z) d e k m f = absurd (none_is_not d e)
document_step setting fraction d e k m f = absurd (none_is_not d e)
document_step setting (text s) d e k m f = absurd (none_is_not d e)
document_step setting (list xs) d e k m f = absurd (none_is_not d e)
document_step setting (value.object ms) d e k m f = (subst (IfThere (RootFrom ms)) e (root_from setting ms)).1 (definitions_rise setting (value.object ms) d e) k m f

-- ---- locations

maybe_spot : (x : MaybeSchema) (m : Spot) → maybe_node x ≡ Some m → (s : Schema) × (x ≡ the_schema s) × (at_schema s ≡ m)
maybe_spot no_schema m e = absurd (none_is_not m e)
maybe_spot (the_schema s) m e = (s, refl, some_same (at_schema s) m e)

definition_spot : (b : Bool) (o : Option Definition) (m : Spot) → definition_node b o ≡ Some m → (s : Schema) × (at_schema s ≡ m)
definition_spot b None m e = absurd (none_is_not m e)
definition_spot b (Some x) m e = at_kind (same_bool x.under_defs b) e
  where
    at_kind : (q : Bool) → (if q then Some (at_schema x.body) else None) ≡ Some m → (s : Schema) × (at_schema s ≡ m)
    at_kind true f = (x.body, some_same (at_schema x.body) m f)
    at_kind false f = absurd (none_is_not m f)

one_step : (k : Step) (m n : Spot) (o : Option Value) → From o m → node_at k m ≡ Some n → From (option_and_then (part_at k) o) n
one_step k (at_document d) n o h e = subst (λ o. From (option_and_then (part_at k) o) n) (sym h.2) (document_step h.1 h.0 d h.3 k n e)
one_step k (at_definitions b d) n o h e =
    let r = definition_spot b (defined k d.definitions) n e in
    subst (From (option_and_then (part_at k) o)) r.1 (h k r.0 (e ∙ ap Some (sym r.1)))
one_step k (at_schema s) n o h e = subst (λ o. From (option_and_then (part_at k) o) n) (sym h.1) (schema_step h.0 s h.2 k n e)
one_step k (at_list ss) n o h e =
    let r = maybe_spot (schema_in k 0 ss) n e in
    subst (From (option_and_then (part_at k) o)) r.2 (subst (λ o. ReadFrom (option_and_then (part_at k) o) r.0) (sym h.1) (from_list h.0 ss h.2 k r.0 r.1))
one_step k (at_names ps) n o h e =
    let r = maybe_spot (property_at k ps) n e in
    subst (From (option_and_then (part_at k) o)) r.2 (h k r.0 r.1)

ends : (o : Option Value) (s : Schema) → ReadFrom o s → ReadFrom (option_and_then (value_at []) o) s
ends o s h = (h.0, ap (λ o. option_and_then (value_at []) o) h.1, h.2)

at_end : (m : Spot) (o : Option Value) → From o m → (s : Schema) → node_schema m ≡ Some s → ReadFrom o s
at_end (at_document d) o h s e = (h.0, h.2, root_is h.1 h.0 d h.3 ∙ e)
at_end (at_definitions b d) o h s e = absurd (none_is_not s e)
at_end (at_schema t) o h s e = (h.0, h.1, h.2 ∙ e)
at_end (at_list ss) o h s e = absurd (none_is_not s e)
at_end (at_names ps) o h s e = absurd (none_is_not s e)

further : (k : Step) (ks : Location) (o : Option Value) → option_and_then (value_at (k ∷ ks)) o ≡ option_and_then (value_at ks) (option_and_then (part_at k) o)
further k ks None = refl
further k ks (Some w) = refl

abbrev Walks : Location → Type 0
Walks l = (m : Spot) (o : Option Value) → From o m → (s : Schema) → option_and_then node_schema (along l m) ≡ Some s → ReadFrom (option_and_then (value_at l) o) s

walk_on : (l : Location) → Walks l → (n : Option Spot) (o : Option Value) → IfThere (From o) n → (s : Schema) → option_and_then node_schema (option_and_then (along l) n) ≡ Some s → ReadFrom (option_and_then (value_at l) o) s
walk_on l w None o h s e = absurd (none_is_not s e)
walk_on l w (Some n) o h s e = w n o h s e

walk : (l : Location) → Walks l
walk [] m o h s e = ends o s (at_end m o h s e)
walk (k ∷ ks) m o h s e =
    subst (λ v. ReadFrom v s) (sym (further k ks o)) (walk_on ks (walk ks) (node_at k m) (option_and_then (part_at k) o) (with_answer (From (option_and_then (part_at k) o)) (node_at k m) (λ n f. one_step k m n o h f)) s e)

pub locations_are_read : LocationsAreRead
locations_are_read setting v d e l s f = walk l (at_document d) (Some v) (v, setting, refl, e) s f
