-- The items that references lead to: the names that their trees want, and what they hold.
use Rattle.std.proofs.Common.{◌≡◌, ℕ, List, [], map, Bool, true, false, Option, None, option_map, Box, Vec, Global, codes, refl, sym, ap, subst}
use Rattle.entry_defs.specs.Entry.{Entry, option_entry, vec_entry, set_entry, array_entry, Shape, struct_shape, newtype_shape}
use Rattle.entry_defs.specs.Table.{ItemEntry}
use Rattle.naming_defs.specs.Names.{is_value, identified_fields}
use Rattle.naming_defs.specs.Good.{is_good_name}
use Rattle.good_names.specs.Given.{Does, item_given}
use Rattle.row_findings.specs.View.{tag_view}
use Rattle.tree_types.specs.View.{label_view, rule_view, atom_view, wrapped, tree_view, rest_fields, item_in}
use Rattle.tree_names.specs.Seen.{part_view, fields_of, parts_named, variant_view, variants_named, variants_identified, name_in, rest_named, item_named, item_given_to}
use Rattle.good_names.specs.declared.given.GivenNames.{GivenNames}
use Rattle.tree_types.specs.declared.tree.Label.{Label}
use Rattle.tree_types.specs.declared.tree.Atom.{Atom}
use Rattle.tree_types.specs.declared.tree.Atom.TheVariants as atoms
use Rattle.tree_types.specs.declared.tree.Wrap.{Wrap}
use Rattle.tree_types.specs.declared.tree.Wrap.TheVariants as wraps
use Rattle.tree_types.specs.declared.tree.TreeRule.{TreeRule}
use Rattle.tree_types.specs.declared.tree.FieldHead.{FieldHead}
use Rattle.tree_types.specs.declared.tree.VariantHead.{VariantHead}
use Rattle.row_findings.specs.declared.row.TagRow.{TagRow}
use Rattle.tree_types.specs.declared.tree.Tree.{Tree}
use Rattle.tree_types.specs.declared.tree.Tree.TheVariants as trees
use Rattle.tree_types.proofs.Seen.{atom_seen, one_seen, map_seen}
use Rattle.tree_names.proofs.Parts.{tuple_in_parts, struct_in_parts, enum_in_parts}
use Rattle.tree_names.proofs.Walks.{struct_does, enum_does}

abbrev T : List ℕ
T = codes "Type"

-- ---- names

label_of : (s r : GivenNames) (n : List ℕ) (d e : Entry) → e ≡ d → Does T s r n (item_given_to (item_in d)) → Does T s r n (item_given_to (item_in e))
label_of s r n d e q h = subst (λ (x : Entry). Does T s r n (item_given_to (item_in x))) (sym q) h

held_alone : (a : Atom) → record { name = []; shape = newtype_shape (atom_view a) None } ≡ item_in (atom_view a)
held_alone atoms.Bool = refl
held_alone (atoms.Integer g) = refl
held_alone atoms.Text = refl
held_alone (atoms.Native f) = refl
held_alone atoms.Any = refl
held_alone atoms.Unit = refl
held_alone (atoms.Reference q) = refl

pub struct_label : (s r : GivenNames) (l k : Label) (c bare : Bool) (ps : Vec (FieldHead × Option Tree) Global) (o : Option (Label × Box Tree Global))
    → ((c : Bool) → bare ≡ is_value (struct_shape c (fields_of (map part_view ps.items) (rest_fields o)))) → Does T s r (label_view k) (item_given bare (label_view l))
    → Does T s r (label_view k) (item_given_to (item_in (tree_view (trees.Struct l c ps o))))
struct_label s r l k c bare ps o is d =
    label_of s r (label_view k) _ (tree_view (trees.Struct l c ps o)) (struct_in_parts l c ps o) (subst (λ (x : Bool). Does T s r (label_view k) (item_given x (label_view l))) (is c) d)

pub struct_told : (s r : GivenNames) (x : Tree) (l k : Label) (c bare : Bool) (ps : Vec (FieldHead × Option Tree) Global) (o : Option (Label × Box Tree Global)) → x ≡ trees.Struct l c ps o
    → ((c : Bool) → bare ≡ is_value (struct_shape c (fields_of (map part_view ps.items) (rest_fields o)))) → Does T s r (label_view k) (item_given bare (label_view l)) → Does T s r (label_view k) (item_given_to (item_in (tree_view x)))
struct_told s r x l k c bare ps o e is d = subst (λ (z : Tree). Does T s r (label_view k) (item_given_to (item_in (tree_view z)))) (sym e) (struct_label s r l k c bare ps o is d)

pub enum_label : (s r : GivenNames) (l k : Label) (c : Bool) (t : TagRow) (ws : Vec (VariantHead × Vec (FieldHead × Option Tree) Global) Global) → Does T s r (label_view k) (item_given false (label_view l))
    → Does T s r (label_view k) (item_given_to (item_in (tree_view (trees.Enum l c t ws))))
enum_label s r l k c t ws d = label_of s r (label_view k) _ (tree_view (trees.Enum l c t ws)) (enum_in_parts l c t ws) d

pub one_label : (s r : GivenNames) (k : Label) (w : Wrap) (b : Box Tree Global) → Does T s r (label_view k) (item_given_to (item_in (wrapped w (tree_view b.value))))
    → Does T s r (label_view k) (item_given_to (item_in (tree_view (trees.One w b))))
one_label s r k w b d = label_of s r (label_view k) (wrapped w (tree_view b.value)) (tree_view (trees.One w b)) (one_seen w b) d

pub atom_label : (s r : GivenNames) (k : Label) (a : Atom) → Does T s r (label_view k) (item_given true []) → Does T s r (label_view k) (item_given_to (item_in (tree_view (trees.Atom a))))
atom_label s r k a d = label_of s r (label_view k) (atom_view a) (tree_view (trees.Atom a)) (atom_seen a) (subst (λ (i : ItemEntry). Does T s r (label_view k) (item_given_to i)) (held_alone a) d)

pub map_label : (s r : GivenNames) (k : Label) (x y : Box Tree Global) → Does T s r (label_view k) (item_given true []) → Does T s r (label_view k) (item_given_to (item_in (tree_view (trees.Map x y))))
map_label s r k x y d = label_of s r (label_view k) _ (tree_view (trees.Map x y)) (map_seen x y) d

pub tuple_label : (s r : GivenNames) (k : Label) (ps : Vec (FieldHead × Option Tree) Global) → Does T s r (label_view k) (item_given true []) → Does T s r (label_view k) (item_given_to (item_in (tree_view (trees.Tuple ps))))
tuple_label s r k ps d = label_of s r (label_view k) _ (tree_view (trees.Tuple ps)) (tuple_in_parts ps) d

-- ---- what they hold

shape_of : (s r : GivenNames) (y : Entry) (n : List ℕ) (d e : Entry) → e ≡ d → Does T s r y (item_named n (item_in d).shape) → Does T s r y (item_named n (item_in e).shape)
shape_of s r y n d e q h = subst (λ (x : Entry). Does T s r y (item_named n (item_in x).shape)) (sym q) h

pub struct_led : (s m r : GivenNames) (l k : Label) (closed : Bool) (ps fs qs : Vec (FieldHead × Option Tree) Global) (rest o p : Option (Label × Box Tree Global)) → Does T s m (map part_view fs.items) (parts_named (map part_view ps.items))
    → Does T m r (rest_fields o) (rest_named (rest_fields rest)) → fields_of (map part_view qs.items) (rest_fields p) ≡ identified_fields is_good_name (fields_of (map part_view fs.items) (rest_fields o))
    → Does T s r (tree_view (trees.Struct k closed qs p)) (item_named (label_view k) (item_in (tree_view (trees.Struct l closed ps rest))).shape)
struct_led s m r l k closed ps fs qs rest o p d f e =
    shape_of s r (tree_view (trees.Struct k closed qs p)) (label_view k) _ (tree_view (trees.Struct l closed ps rest)) (struct_in_parts l closed ps rest) (struct_does s m r k closed ps.items (rest_fields rest) fs qs o p d f e)

pub enum_led : (s r : GivenNames) (l k : Label) (closed : Bool) (tag : TagRow) (ws vs us : Vec (VariantHead × Vec (FieldHead × Option Tree) Global) Global) → Does T s r (map variant_view vs.items) (variants_named (map variant_view ws.items))
    → map variant_view us.items ≡ (variants_identified (tag_view tag) (map variant_view vs.items) (map (name_in (tag_view tag)) (map variant_view vs.items)) []).1
    → Does T s r (tree_view (trees.Enum k closed tag us)) (item_named (label_view k) (item_in (tree_view (trees.Enum l closed tag ws))).shape)
enum_led s r l k closed tag ws vs us d e =
    shape_of s r (tree_view (trees.Enum k closed tag us)) (label_view k) _ (tree_view (trees.Enum l closed tag ws)) (enum_in_parts l closed tag ws) (enum_does s r k closed tag ws.items vs us d e)

pub struct_item : (s m r : GivenNames) (x : Tree) (l k : Label) (closed : Bool) (ps fs qs : Vec (FieldHead × Option Tree) Global) (rest o p : Option (Label × Box Tree Global)) → x ≡ trees.Struct l closed ps rest
    → Does T s m (map part_view fs.items) (parts_named (map part_view ps.items)) → Does T m r (rest_fields o) (rest_named (rest_fields rest))
    → fields_of (map part_view qs.items) (rest_fields p) ≡ identified_fields is_good_name (fields_of (map part_view fs.items) (rest_fields o))
    → Does T s r (tree_view (trees.Struct k closed qs p)) (item_named (label_view k) (item_in (tree_view x)).shape)
struct_item s m r x l k closed ps fs qs rest o p is d f e =
    subst (λ (z : Tree). Does T s r (tree_view (trees.Struct k closed qs p)) (item_named (label_view k) (item_in (tree_view z)).shape)) (sym is) (struct_led s m r l k closed ps fs qs rest o p d f e)

pub enum_item : (s r : GivenNames) (x : Tree) (l k : Label) (closed : Bool) (tag : TagRow) (ws vs us : Vec (VariantHead × Vec (FieldHead × Option Tree) Global) Global) → x ≡ trees.Enum l closed tag ws
    → Does T s r (map variant_view vs.items) (variants_named (map variant_view ws.items))
    → map variant_view us.items ≡ (variants_identified (tag_view tag) (map variant_view vs.items) (map (name_in (tag_view tag)) (map variant_view vs.items)) []).1
    → Does T s r (tree_view (trees.Enum k closed tag us)) (item_named (label_view k) (item_in (tree_view x)).shape)
enum_item s r x l k closed tag ws vs us is d e =
    subst (λ (z : Tree). Does T s r (tree_view (trees.Enum k closed tag us)) (item_named (label_view k) (item_in (tree_view z)).shape)) (sym is) (enum_led s r l k closed tag ws vs us d e)

-- what is no item is held by a newtype
held : (s r : GivenNames) (y : Entry) (n : List ℕ) (e : Entry) → newtype_shape e None ≡ (item_in e).shape → Does T s r y (item_named n (newtype_shape e (option_map rule_view None))) → Does T s r y (item_named n (item_in e).shape)
held s r y n e q h = subst (λ (x : Shape). Does T s r y (item_named n x)) q h

held_by : (e d : Entry) → e ≡ d → newtype_shape d None ≡ (item_in d).shape → newtype_shape e None ≡ (item_in e).shape
held_by e d q h = subst (λ (x : Entry). newtype_shape x None ≡ (item_in x).shape) (sym q) h

atom_held : (a : Atom) → newtype_shape (atom_view a) None ≡ (item_in (atom_view a)).shape
atom_held a = ap (λ (i : ItemEntry). i.shape) (held_alone a)

module _ (s r : GivenNames) (y : Entry) (n : List ℕ) where
  pub atom_led : (a : Atom) → Does T s r y (item_named n (newtype_shape (tree_view (trees.Atom a)) (option_map rule_view None))) → Does T s r y (item_named n (item_in (tree_view (trees.Atom a))).shape)
  atom_led a d = held s r y n (tree_view (trees.Atom a)) (held_by (tree_view (trees.Atom a)) (atom_view a) (atom_seen a) (atom_held a)) d

  pub map_led : (k v : Box Tree Global) → Does T s r y (item_named n (newtype_shape (tree_view (trees.Map k v)) (option_map rule_view None))) → Does T s r y (item_named n (item_in (tree_view (trees.Map k v))).shape)
  map_led k v d = held s r y n (tree_view (trees.Map k v)) (held_by (tree_view (trees.Map k v)) _ (map_seen k v) refl) d

  pub tuple_led : (ps : Vec (FieldHead × Option Tree) Global) → Does T s r y (item_named n (newtype_shape (tree_view (trees.Tuple ps)) (option_map rule_view None))) → Does T s r y (item_named n (item_in (tree_view (trees.Tuple ps))).shape)
  tuple_led ps d = held s r y n (tree_view (trees.Tuple ps)) (held_by (tree_view (trees.Tuple ps)) _ (tuple_in_parts ps) refl) d

  pub newtype_led : (e x : Entry) (l : Label) (rule : Option TreeRule) → e ≡ wrapped (wraps.Newtype l rule) x → Does T s r y (item_named n (newtype_shape x (option_map rule_view rule))) → Does T s r y (item_named n (item_in e).shape)
  newtype_led e x l rule q d = shape_of s r y n (wrapped (wraps.Newtype l rule) x) e q d

  pub option_led : (e x : Entry) → e ≡ wrapped wraps.Option x → Does T s r y (item_named n (newtype_shape e (option_map rule_view None))) → Does T s r y (item_named n (item_in e).shape)
  option_led e x q d = held s r y n e (held_by e (option_entry x) q refl) d

  pub vec_led : (e x : Entry) → e ≡ wrapped wraps.Vec x → Does T s r y (item_named n (newtype_shape e (option_map rule_view None))) → Does T s r y (item_named n (item_in e).shape)
  vec_led e x q d = held s r y n e (held_by e (vec_entry x) q refl) d

  pub set_led : (e x : Entry) → e ≡ wrapped wraps.Set x → Does T s r y (item_named n (newtype_shape e (option_map rule_view None))) → Does T s r y (item_named n (item_in e).shape)
  set_led e x q d = held s r y n e (held_by e (set_entry x) q refl) d

  pub array_led : (e x : Entry) (c : ℕ) → e ≡ wrapped (wraps.Array c) x → Does T s r y (item_named n (newtype_shape e (option_map rule_view None))) → Does T s r y (item_named n (item_in e).shape)
  array_led e x c q d = held s r y n e (held_by e (array_entry x c) q refl) d
