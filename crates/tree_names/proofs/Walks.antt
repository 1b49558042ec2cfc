-- What each step of the walk gives.
use Rattle.std.proofs.Common.{◌≡◌, ◌<◌, ◌+◌, ◌++◌, length, take, get_or, slice_get, ℕ, List, [], ◌∷◌, map, Bool, true, false, Option, Some, None, option_map, Box, Vec, Global, codes, refl, sym, ap, ◌∙◌, subst}
use Rattle.std.proofs.lemmas.List.{take_more, map-append}
use Rattle.model_defs.specs.Model.{TagModel, external_tag, internal_tag, adjacent_tag, untagged}
use Rattle.entry_defs.specs.Entry.{Entry, option_entry, vec_entry, set_entry, array_entry, map_entry, tuple_entry, item, Shape, struct_shape, enum_shape, newtype_shape, Fields, no_fields, rest_field}
use Rattle.naming_defs.specs.Names.{Names, is_value, taking, values, bound, identified_fields, item_name, variant_name, name_by}
use Rattle.naming_defs.specs.Good.{is_good_name}
use Rattle.good_names.specs.Given.{has_value, Stands, DoesWithin, Does, name_given, item_given, bound_given}
use Rattle.good_names.proofs.First.{begins_within}
use Rattle.row_findings.specs.View.{tag_view, state_view}
use Rattle.tree_types.specs.View.{label_view, rule_view, atom_view, wrapped, tree_view, rest_fields}
use Rattle.tree_names.specs.Seen.{PartD, VariantD, part_view, places_of, fields_of, part_named, parts_named, part_identified, parts_identified, part_bound, parts_bound, contents_named, names_of, identifiers_of, variant_view, variants_of, variant_named, variants_named, variant_given, variant_identified, variants_identified, name_in, entry_named, rest_named, item_named}
use Rattle.good_names.specs.declared.given.GivenNames.{GivenNames}
use Rattle.tree_types.specs.declared.tree.Label.{Label}
use Rattle.tree_types.specs.declared.tree.Atom.{Atom}
use Rattle.tree_types.specs.declared.tree.Atom.TheVariants as atoms
use Rattle.tree_types.specs.declared.tree.Wrap.{Wrap}
use Rattle.tree_types.specs.declared.tree.Wrap.TheVariants as wraps
use Rattle.tree_types.specs.declared.tree.TreeRule.{TreeRule}
use Rattle.tree_types.specs.declared.tree.FieldHead.{FieldHead}
use Rattle.tree_types.specs.declared.tree.VariantHead.{VariantHead}
use Rattle.tree_types.specs.declared.tree.ContentKind.TheVariants as kinds
use Rattle.row_findings.specs.declared.row.TagRow.{TagRow}
use Rattle.tree_types.specs.declared.tree.Tree.{Tree}
use Rattle.tree_types.specs.declared.tree.Tree.TheVariants as trees
use Rattle.tree_names.proofs.Naming.{fields_named, places_named, all_identified, enum_named}
use Rattle.tree_names.proofs.Steps.{does_nothing, does_wrapped, does_both, does_same}
use Rattle.tree_types.proofs.Seen.{atom_seen, one_seen, map_seen}
use Rattle.tree_names.proofs.Parts.{tuple_in_parts, struct_in_parts, enum_in_parts}

abbrev pub T : List ℕ
T = codes "Type"

abbrev Parts : Type 0
Parts = List (FieldHead × Option Tree)

abbrev Cases : Type 0
Cases = List (VariantHead × Vec (FieldHead × Option Tree) Global)

-- entries that are seen otherwise
pub does_seen : (s r : GivenNames) (y z d e : Entry) → z ≡ y → e ≡ d → Does T s r y (entry_named d) → Does T s r z (entry_named e)
does_seen s r y z d e q w h = subst (λ (x : Entry). Does T s r x (entry_named e)) (sym q) (subst (λ (x : Entry). Does T s r y (entry_named x)) (sym w) h)

-- ---- trees without items of their own

atom_named : (a : Atom) (b t : Names) → (t, atom_view a) ≡ entry_named (atom_view a) b t
atom_named atoms.Bool b t = refl
atom_named (atoms.Integer g) b t = refl
atom_named atoms.Text b t = refl
atom_named (atoms.Native f) b t = refl
atom_named atoms.Any b t = refl
atom_named atoms.Unit b t = refl
atom_named (atoms.Reference q) b t = refl

pub atom_does : (s : GivenNames) (a c : Atom) → atom_view c ≡ atom_view a → Does T s s (tree_view (trees.Atom c)) (entry_named (tree_view (trees.Atom a)))
atom_does s a c e = does_seen s s (atom_view c) _ (atom_view a) _ (atom_seen c) (atom_seen a) (does_same T s s (atom_view c) (λ b t. (t, atom_view a)) (entry_named (atom_view a)) (atom_named a) (does_nothing T s (atom_view c) (atom_view a) e))

module _ (s r : GivenNames) (x : Box Tree Global) (e : Entry) (d : Does T s r (tree_view x.value) (entry_named e)) where
  pub option_does : Does T s r (tree_view (trees.One wraps.Option x)) (entry_named (option_entry e))
  option_does = does_wrapped T s r (tree_view x.value) (entry_named e) option_entry _ (one_seen wraps.Option x) d

  pub vec_does : Does T s r (tree_view (trees.One wraps.Vec x)) (entry_named (vec_entry e))
  vec_does = does_wrapped T s r (tree_view x.value) (entry_named e) vec_entry _ (one_seen wraps.Vec x) d

  pub set_does : Does T s r (tree_view (trees.One wraps.Set x)) (entry_named (set_entry e))
  set_does = does_wrapped T s r (tree_view x.value) (entry_named e) set_entry _ (one_seen wraps.Set x) d

  pub array_does : (n : ℕ) → Does T s r (tree_view (trees.One (wraps.Array n) x)) (entry_named (array_entry e n))
  array_does n = does_wrapped T s r (tree_view x.value) (entry_named e) (λ z. array_entry z n) _ (one_seen (wraps.Array n) x) d

  pub newtype_does : (l : Label) (rule : Option TreeRule) → Does T s r (tree_view (trees.One (wraps.Newtype l rule) x)) (item_named (label_view l) (newtype_shape e (option_map rule_view rule)))
  newtype_does l rule = does_wrapped T s r (tree_view x.value) (entry_named e) (λ z. item (label_view l) (newtype_shape z (option_map rule_view rule))) _ (one_seen (wraps.Newtype l rule) x) d

pub map_does : (s m r : GivenNames) (k v j w : Box Tree Global) → Does T s m (tree_view k.value) (entry_named (tree_view j.value)) → Does T m r (tree_view v.value) (entry_named (tree_view w.value))
    → Does T s r (tree_view (trees.Map k v)) (entry_named (tree_view (trees.Map j w)))
map_does s m r k v j w d e =
    does_seen s r (tree_view (trees.Map k v)) _ (map_entry (tree_view j.value) (tree_view w.value)) _ refl (map_seen j w)
    (does_both T s m r (tree_view k.value) (tree_view v.value) (entry_named (tree_view j.value)) (entry_named (tree_view w.value)) map_entry _ (map_seen k v) d e)

pub tuple_does : (s r : GivenNames) (ps qs : Vec (FieldHead × Option Tree) Global) → Does T s r (map part_view qs.items) (parts_named (map part_view ps.items))
    → Does T s r (tree_view (trees.Tuple qs)) (entry_named (tree_view (trees.Tuple ps)))
tuple_does s r ps qs d =
    let parts = map part_view ps.items in
    does_seen s r (tree_view (trees.Tuple qs)) _ (tuple_entry (places_of parts)) _ refl (tuple_in_parts ps)
    (does_same T s r (tree_view (trees.Tuple qs)) (λ b t. let a = parts_named parts b t in (a.0, tuple_entry (places_of a.1))) (entry_named (tuple_entry (places_of parts)))
    (λ b t. sym (ap (λ z. (z.0, tuple_entry z.1)) (places_named b parts t)))
    (does_wrapped T s r (map part_view qs.items) (parts_named parts) (λ z. tuple_entry (places_of z)) _ (tuple_in_parts qs) d))

-- ---- items

-- an item's name is given before what it holds is named
pub item_does : (s m r : GivenNames) (n w : List ℕ) (h : Shape) (y : Entry) → Does T s m n (item_given (is_value h) w) → Does T m r y (item_named n h) → Does T s r y (entry_named (item w h))
item_does s m r n w h y d k = record {
  step = λ b t st.
      let a = d.step b t st in
      let u = taking (is_value h) (item_name is_good_name b t w) t in
      let c = k.step b u a.1 in
      (c.0 ∙ ap (λ z. (item_named z h b u).1) a.0, c.1);
}

pub struct_does : (s m r : GivenNames) (l : Label) (closed : Bool) (ps : Parts) (rest : Fields) (fs qs : Vec (FieldHead × Option Tree) Global) (o p : Option (Label × Box Tree Global))
    → Does T s m (map part_view fs.items) (parts_named (map part_view ps)) → Does T m r (rest_fields o) (rest_named rest)
    → fields_of (map part_view qs.items) (rest_fields p) ≡ identified_fields is_good_name (fields_of (map part_view fs.items) (rest_fields o))
    → Does T s r (tree_view (trees.Struct l closed qs p)) (item_named (label_view l) (struct_shape closed (fields_of (map part_view ps) rest)))
struct_does s m r l closed ps rest fs qs o p d k e =
    let parts = map part_view ps in
    let F = λ (xs : List PartD) (ys : Fields). item (label_view l) (struct_shape closed (identified_fields is_good_name (fields_of xs ys))) in
    does_same T s r (tree_view (trees.Struct l closed qs p)) (λ b t. let a = parts_named parts b t in let c = rest_named rest b a.0 in (c.0, F a.1 c.1)) (item_named (label_view l) (struct_shape closed (fields_of parts rest)))
    (λ b t. sym (ap (λ z. (z.0, item (label_view l) (struct_shape closed (identified_fields is_good_name z.1)))) (fields_named b parts rest t)))
    (does_both T s m r (map part_view fs.items) (rest_fields o) (parts_named parts) (rest_named rest) F _
    (struct_in_parts l closed qs p ∙ ap (λ z. item (label_view l) (struct_shape closed z)) e) d k)

pub enum_does : (s r : GivenNames) (l : Label) (closed : Bool) (tag : TagRow) (ws : Cases) (vs us : Vec (VariantHead × Vec (FieldHead × Option Tree) Global) Global)
    → Does T s r (map variant_view vs.items) (variants_named (map variant_view ws))
    → map variant_view us.items ≡ (variants_identified (tag_view tag) (map variant_view vs.items) (map (name_in (tag_view tag)) (map variant_view vs.items)) []).1
    → Does T s r (tree_view (trees.Enum l closed tag us)) (item_named (label_view l) (enum_shape closed (tag_view tag) (variants_of (tag_view tag) (map variant_view ws))))
enum_does s r l closed tag ws vs us d e =
    let g = tag_view tag in
    let cases = map variant_view ws in
    let F = λ (xs : List VariantD). item (label_view l) (enum_shape closed g (variants_of g (variants_identified g xs (map (name_in g) xs) []).1)) in
    does_same T s r (tree_view (trees.Enum l closed tag us)) (λ b t. let a = variants_named cases b t in (a.0, F a.1)) (item_named (label_view l) (enum_shape closed g (variants_of g cases)))
    (λ b t. sym (ap (λ z. (z.0, item (label_view l) z.1)) (enum_named b closed g cases t)))
    (does_wrapped T s r (map variant_view vs.items) (variants_named cases) F _ (enum_in_parts l closed tag us ∙ ap (λ z. item (label_view l) (enum_shape closed g (variants_of g z))) e) d)

-- a struct's name, where it is said whether the struct has fields
bare_given : (s n : GivenNames) (k w : List ℕ) (bare : Bool) (h : Shape) → bare ≡ is_value h → Does T s n k (item_given bare w) → Does T s n k (item_given (is_value h) w)
bare_given s n k w bare h e d = subst (λ (x : Bool). Does T s n k (item_given x w)) e d

-- items, with their names

pub one_whole : (s r : GivenNames) (w : Wrap) (b : Box Tree Global) (x : Tree) → Does T s r (tree_view x) (entry_named (wrapped w (tree_view b.value))) → Does T s r (tree_view x) (entry_named (tree_view (trees.One w b)))
one_whole s r w b x d = does_seen s r (tree_view x) (tree_view x) (wrapped w (tree_view b.value)) (tree_view (trees.One w b)) refl (one_seen w b) d

pub newtype_whole : (s m r : GivenNames) (l k : Label) (rule : Option TreeRule) (x : Box Tree Global) (e : Entry) → Does T s m (label_view k) (item_given true (label_view l)) → Does T m r (tree_view x.value) (entry_named e)
    → Does T s r (tree_view (trees.One (wraps.Newtype k rule) x)) (entry_named (wrapped (wraps.Newtype l rule) e))
newtype_whole s m r l k rule x e d f = item_does s m r (label_view k) (label_view l) (newtype_shape e (option_map rule_view rule)) (tree_view (trees.One (wraps.Newtype k rule) x)) d (newtype_does m r x e f k rule)

pub struct_whole : (s n m r : GivenNames) (l k : Label) (closed bare : Bool) (ps fs qs : Vec (FieldHead × Option Tree) Global) (rest o p : Option (Label × Box Tree Global))
    → ((closed : Bool) → bare ≡ is_value (struct_shape closed (fields_of (map part_view ps.items) (rest_fields rest)))) → Does T s n (label_view k) (item_given bare (label_view l))
    → Does T n m (map part_view fs.items) (parts_named (map part_view ps.items)) → Does T m r (rest_fields o) (rest_named (rest_fields rest))
    → fields_of (map part_view qs.items) (rest_fields p) ≡ identified_fields is_good_name (fields_of (map part_view fs.items) (rest_fields o))
    → Does T s r (tree_view (trees.Struct k closed qs p)) (entry_named (tree_view (trees.Struct l closed ps rest)))
struct_whole s n m r l k closed bare ps fs qs rest o p is d f g e =
    let x = tree_view (trees.Struct k closed qs p) in
    let h = struct_shape closed (fields_of (map part_view ps.items) (rest_fields rest)) in
    does_seen s r x x (item (label_view l) h) (tree_view (trees.Struct l closed ps rest)) refl (struct_in_parts l closed ps rest)
    (item_does s n r (label_view k) (label_view l) h x (bare_given s n (label_view k) (label_view l) bare h (is closed) d) (struct_does n m r k closed ps.items (rest_fields rest) fs qs o p f g e))

pub struct_walked : (s n m r : GivenNames) (x : Tree) (l k : Label) (closed bare : Bool) (ps fs qs : Vec (FieldHead × Option Tree) Global) (rest o p : Option (Label × Box Tree Global)) → x ≡ trees.Struct l closed ps rest
    → ((closed : Bool) → bare ≡ is_value (struct_shape closed (fields_of (map part_view ps.items) (rest_fields rest)))) → Does T s n (label_view k) (item_given bare (label_view l)) → Does T n m (map part_view fs.items) (parts_named (map part_view ps.items)) → Does T m r (rest_fields o) (rest_named (rest_fields rest))
    → fields_of (map part_view qs.items) (rest_fields p) ≡ identified_fields is_good_name (fields_of (map part_view fs.items) (rest_fields o))
    → Does T s r (tree_view (trees.Struct k closed qs p)) (entry_named (tree_view x))
struct_walked s n m r x l k closed bare ps fs qs rest o p is none d f g e =
    subst (λ (z : Tree). Does T s r (tree_view (trees.Struct k closed qs p)) (entry_named (tree_view z))) (sym is) (struct_whole s n m r l k closed bare ps fs qs rest o p none d f g e)

pub enum_whole : (s n r : GivenNames) (l k : Label) (closed : Bool) (tag : TagRow) (ws vs us : Vec (VariantHead × Vec (FieldHead × Option Tree) Global) Global) → Does T s n (label_view k) (item_given false (label_view l))
    → Does T n r (map variant_view vs.items) (variants_named (map variant_view ws.items))
    → map variant_view us.items ≡ (variants_identified (tag_view tag) (map variant_view vs.items) (map (name_in (tag_view tag)) (map variant_view vs.items)) []).1
    → Does T s r (tree_view (trees.Enum k closed tag us)) (entry_named (tree_view (trees.Enum l closed tag ws)))
enum_whole s n r l k closed tag ws vs us d f e =
    let x = tree_view (trees.Enum k closed tag us) in
    let h = enum_shape closed (tag_view tag) (variants_of (tag_view tag) (map variant_view ws.items)) in
    does_seen s r x x (item (label_view l) h) (tree_view (trees.Enum l closed tag ws)) refl (enum_in_parts l closed tag ws)
    (item_does s n r (label_view k) (label_view l) h x d (enum_does n r k closed tag ws.items vs us f e))

-- ---- parts

pub none_does : (s : GivenNames) (h k : FieldHead) → label_view k.label ≡ label_view h.label → k.label.wanted.now ≡ h.label.wanted.now → k.state ≡ h.state
    → Does T s s (part_view (k, None)) (part_named (part_view (h, None)))
none_does s h k i n e = does_nothing T s (part_view (k, None)) (part_view (h, None)) (λ j. record { identifier = i j; name = n j; state = state_view (e j); entry = None })

pub some_does : (s r : GivenNames) (h k : FieldHead) (x y : Tree) → label_view k.label ≡ label_view h.label → k.label.wanted.now ≡ h.label.wanted.now → k.state ≡ h.state
    → Does T s r (tree_view y) (entry_named (tree_view x)) → Does T s r (part_view (k, Some y)) (part_named (part_view (h, Some x)))
some_does s r h k x y i n e d =
    does_wrapped T s r (tree_view y) (entry_named (tree_view x)) (λ z. record { identifier = label_view h.label; name = h.label.wanted.now; state = state_view h.state; entry = Some z }) (part_view (k, Some y))
    (λ j. record { identifier = i j; name = n j; state = state_view (e j); entry = Some (tree_view y) }) d

pub rest_does : (s r : GivenNames) (l k : Label) (x y : Box Tree Global) → label_view k ≡ label_view l → Does T s r (tree_view y.value) (entry_named (tree_view x.value))
    → Does T s r (rest_fields (Some (k, y))) (rest_named (rest_fields (Some (l, x))))
rest_does s r l k x y e d = does_wrapped T s r (tree_view y.value) (entry_named (tree_view x.value)) (λ z. rest_field (label_view l) z) (rest_fields (Some (k, y))) (ap (λ z. rest_field z (tree_view y.value)) e) d

pub no_rest_does : (s : GivenNames) → Does T s s (rest_fields None) (rest_named (rest_fields None))
no_rest_does s = does_nothing T s no_fields no_fields refl

-- ---- contents

pub unit_does : (s : GivenNames) (ps qs : Parts) → qs ≡ [] → Does T s s (map part_view qs) (contents_named kinds.Unit (map part_view ps))
unit_does s ps qs e = does_nothing T s (map part_view qs) [] (ap (map part_view) e)

pub no_front_does : (s : GivenNames) (ps qs : Parts) → slice_get ps 0 ≡ None → qs ≡ [] → Does T s s (map part_view qs) (contents_named kinds.Newtype (map part_view ps))
no_front_does s [] qs e h = does_nothing T s (map part_view qs) [] (ap (map part_view) h)
no_front_does s (p ∷ ps) qs e h = absurd (cc)

pub front_does : (s r : GivenNames) (p q : FieldHead × Option Tree) (ps qs : Parts) → slice_get ps 0 ≡ Some p → qs ≡ q ∷ [] → Does T s r (part_view q) (part_named (part_view p))
    → Does T s r (map part_view qs) (contents_named kinds.Newtype (map part_view ps))
front_does s r p q [] qs e h d = absurd (cc)
front_does s r p q (x ∷ ps) qs e h d =
    let same : p ≡ x = cc in
    subst (λ (z : FieldHead × Option Tree). Does T s r (map part_view qs) (contents_named kinds.Newtype (part_view z ∷ map part_view ps))) same
    (does_wrapped T s r (part_view q) (part_named (part_view p)) (λ z. z ∷ []) (map part_view qs) (ap (map part_view) h) d)

pub front_told : (s r : GivenNames) (p q : FieldHead × Option Tree) (ps all old qs : Parts) → ps ≡ all → slice_get ps 0 ≡ Some p → old ≡ [] → qs ≡ old ++ q ∷ [] → Does T s r (part_view q) (part_named (part_view p))
    → Does T s r (map part_view qs) (contents_named kinds.Newtype (map part_view all))
front_told s r p q ps all old qs same e none h d =
    subst (λ (z : Parts). Does T s r (map part_view qs) (contents_named kinds.Newtype (map part_view z))) same (front_does s r p q ps qs e (h ∙ ap (λ z. z ++ q ∷ []) none) d)

pub fields_do : (s m r : GivenNames) (ps qs fs : Parts) → Does T s m (map part_view fs) (parts_named (map part_view ps))
    → ((b t : Names) → Stands m T t b → map part_view qs ≡ (parts_bound (map part_view fs) (names_of (map part_view fs)) (values t)).1)
    → ((p : List ℕ) (t b : Names) → Stands m p t b → Stands r p (bound (identifiers_of (map part_view qs)) t) b) → Does T s r (map part_view qs) (contents_named kinds.Struct (map part_view ps))
fields_do s m r ps qs fs d e k = record {
  step = λ b t st.
      let a = d.step b t st in
      let u = (parts_named (map part_view ps) b t).0 in
      let same : map part_view qs ≡ (contents_named kinds.Struct (map part_view ps) b t).1 = e b u a.1 ∙ ap (λ z. (parts_bound z (names_of z) (values u)).1) a.0 in
      (same, subst (λ (z : List PartD). Stands r T (bound (identifiers_of z) u) b) same (k T u b a.1));
}

pub variant_does : (s r : GivenNames) (h k : VariantHead) (ps qs : Vec (FieldHead × Option Tree) Global) → label_view k.label ≡ label_view h.label → k.label.wanted.now ≡ h.label.wanted.now → k.kind ≡ h.kind
    → Does T s r (map part_view qs.items) (contents_named h.kind (map part_view ps.items)) → Does T s r (variant_view (k, qs)) (variant_named (variant_view (h, ps)))
variant_does s r h k ps qs i n e d =
    does_wrapped T s r (map part_view qs.items) (contents_named h.kind (map part_view ps.items)) (λ z. record { identifier = label_view h.label; wanted = h.label.wanted.now; kind = h.kind; parts = z }) (variant_view (k, qs))
    (λ j. record { identifier = i j; wanted = n j; kind = e j; parts = map part_view qs.items }) d

-- ---- identifiers

abbrev F : List ℕ
F = codes "field"

pub no_rest_identified : (s r : GivenNames) (ps qs : Parts) → ((p : List ℕ) → Stands s p [] (names_of (map part_view ps))) → Does F s r (map part_view qs) (parts_identified (map part_view ps))
    → fields_of (map part_view qs) no_fields ≡ identified_fields is_good_name (fields_of (map part_view ps) no_fields)
no_rest_identified s r ps qs st d =
    let xs = map part_view ps in
    ap (λ z. fields_of z no_fields) (d.step (names_of xs) [] (st F)).0 ∙ sym (all_identified xs no_fields refl)

pub rest_identified : (s m r : GivenNames) (ps qs : Parts) (l k : Label) (x : Box Tree Global) → ((p : List ℕ) → Stands s p [] (names_of (map part_view ps)))
    → Does F s m (map part_view qs) (parts_identified (map part_view ps)) → Does F m r (label_view k) (name_given F (label_view l))
    → fields_of (map part_view qs) (rest_fields (Some (k, x))) ≡ identified_fields is_good_name (fields_of (map part_view ps) (rest_fields (Some (l, x))))
rest_identified s m r ps qs l k x st d e =
    let xs = map part_view ps in
    let a = d.step (names_of xs) [] (st F) in
    let c = e.step (names_of xs) (parts_identified xs (names_of xs) []).0 a.1 in
    (λ i. fields_of (a.0 i) (rest_field (c.0 i) (tree_view x.value))) ∙ sym (all_identified xs (rest_fields (Some (l, x))) refl)

pub contents_bound : (s r items : GivenNames) (ps qs : Parts) → ((p : List ℕ) → Stands s p [] (names_of (map part_view ps))) → DoesWithin (has_value items) F s r (map part_view qs) (parts_bound (map part_view ps))
    → (b t : Names) → Stands items T t b → map part_view qs ≡ (parts_bound (map part_view ps) (names_of (map part_view ps)) (values t)).1
contents_bound s r items ps qs st d b t of =
    let wanted = names_of (map part_view ps) in
    (d.step wanted (values t) (begins_within s items F T t wanted b (st F) of)).0

-- a field has its identifier
pub part_identified_does : (s r : GivenNames) (h k : FieldHead) (o : Option Tree) (n : List ℕ) → label_view k.label ≡ n → k.label.wanted.now ≡ h.label.wanted.now → k.state ≡ h.state
    → Does F s r n (name_given F h.label.wanted.now) → Does F s r (part_view (k, o)) (part_identified (part_view (h, o)))
part_identified_does s r h k o n i w e d =
    does_wrapped F s r n (name_given F h.label.wanted.now) (λ z. record { identifier = z; name = h.label.wanted.now; state = state_view h.state; entry = option_map tree_view o }) (part_view (k, o))
    (λ j. record { identifier = i j; name = w j; state = state_view (e j); entry = option_map tree_view o }) d

pub part_bound_does : (items s r : GivenNames) (h k : FieldHead) (o : Option Tree) (n : List ℕ) → label_view k.label ≡ n → k.label.wanted.now ≡ h.label.wanted.now → k.state ≡ h.state
    → DoesWithin (has_value items) F s r n (bound_given h.label.wanted.now) → DoesWithin (has_value items) F s r (part_view (k, o)) (part_bound (part_view (h, o)))
part_bound_does items s r h k o n i w e d =
    does_wrapped F s r n (bound_given h.label.wanted.now) (λ z. record { identifier = z; name = h.label.wanted.now; state = state_view h.state; entry = option_map tree_view o }) (part_view (k, o))
    (λ j. record { identifier = i j; name = w j; state = state_view (e j); entry = option_map tree_view o }) d

abbrev V : List ℕ
V = codes "Variant"

name_in_same : (tag : TagModel) (t b : Names) (i w : List ℕ) → variant_name is_good_name tag t b w ≡ variant_name is_good_name tag t b (name_by tag i w)
name_in_same external_tag t b i w = refl
name_in_same (internal_tag g) t b i w = refl
name_in_same (adjacent_tag g c) t b i w = refl
name_in_same untagged t b i w = refl

-- a variant has its identifier
abbrev variant_as : VariantHead → Vec (FieldHead × Option Tree) Global → List ℕ → VariantD
variant_as h ps z = record { identifier = z; wanted = h.label.wanted.now; kind = h.kind; parts = map part_view ps.items }

pub variant_identified_does : (s r : GivenNames) (tag : TagModel) (h k : VariantHead) (ps : Vec (FieldHead × Option Tree) Global) → k.label.wanted.now ≡ h.label.wanted.now → k.kind ≡ h.kind
    → Does V s r (label_view k.label) (variant_given tag h.label.wanted.now) → Does V s r (variant_view (k, ps)) (variant_identified tag (variant_view (h, ps)))
variant_identified_does s r tag h k ps w e d =
    does_same V s r (variant_view (k, ps)) (λ b t. let a = variant_given tag h.label.wanted.now b t in (a.0, variant_as h ps a.1)) (variant_identified tag (variant_view (h, ps)))
    (λ b t. ap (λ z. (z ∷ t, variant_as h ps z)) (name_in_same tag t b (label_view h.label) h.label.wanted.now))
    (does_wrapped V s r (label_view k.label) (variant_given tag h.label.wanted.now) (variant_as h ps) (variant_view (k, ps))
    (λ j. record { identifier = label_view k.label; wanted = w j; kind = e j; parts = map part_view ps.items }) d)

pub cases_identified : (s r : GivenNames) (tag : TagModel) (ws us : Cases) → ((p : List ℕ) → Stands s p [] (map (name_in tag) (map variant_view ws))) → Does V s r (map variant_view us) (variants_identified tag (map variant_view ws))
    → map variant_view us ≡ (variants_identified tag (map variant_view ws) (map (name_in tag) (map variant_view ws)) []).1
cases_identified s r tag ws us st d = (d.step (map (name_in tag) (map variant_view ws)) [] (st V)).0

-- ---- loops

pub mapped_more : {X Y : Type 0} (f : X → Y) (xs : List X) (i : ℕ) (d : X) → i < length xs → map f (take (i + 1) xs) ≡ map f (take i xs) ++ f (get_or xs i d) ∷ []
mapped_more f xs i d h = ap (map f) (take_more xs i d h) ∙ map-append f (take i xs) (get_or xs i d ∷ [])
