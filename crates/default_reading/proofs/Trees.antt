-- What trees come to, by what their forms do.
use Rattle.std.proofs.Common.{◌≡◌, ℕ, Bool, true, false, cond, List, [], ◌∷◌, Option, None, Some, Box, Vec, Global, refl, sym, ap, ◌∙◌, true≢false}
use Rattle.std.proofs.lemmas.Slice.Eq.{bytes_eq-Decides}
use Rattle.json_value.specs.Value.{Value}
use Rattle.schema_defs.specs.Texts.{Relations}
use Rattle.entry_defs.specs.Entry as entry
use Rattle.entry_defs.specs.Entry.{Target, the_root, definition, Entry, any_entry, reference, map_entry, tuple_entry, struct_shape, enum_shape, newtype_shape, FieldEntry, Fields, next_field, fields_of, rest_of}
use Rattle.entry_defs.specs.Table.{Table, same_target}
use Rattle.row_findings.specs.declared.row.TagRow.{TagRow}
use Rattle.row_findings.specs.View.{state_view, tag_view}
use Rattle.tree_types.specs.View.{label_view, atom_view, wrapped, rest_fields, fields_view, parts_of, tree_view}
use Rattle.tree_types.specs.declared.tree.Label.{Label}
use Rattle.tree_types.specs.declared.tree.Atom.{Atom}
use Rattle.tree_types.specs.declared.tree.Atom.TheVariants as atoms
use Rattle.tree_types.specs.declared.tree.Wrap.{Wrap}
use Rattle.tree_types.specs.declared.tree.Tree.{Tree}
use Rattle.tree_types.specs.declared.tree.Tree.TheVariants as trees
use Rattle.tree_types.proofs.Seen.{atom_seen, one_seen, map_seen, tuple_seen, struct_seen, enum_seen}
use Rattle.entry_defs.specs.Layer.{shape_takes}
use Rattle.entry_defs.specs.Takes.{follows, item_takes, parts_of as parts_taken}
use Rattle.listed_reading.specs.Followed.{Followed, takes_in}
use Rattle.model_defs.specs.Layer.{Parts, no_parts, list_parts, object_parts}
use Rattle.default_defs.specs.Found.{Found, told}
use Rattle.default_defs.specs.Layer.{Reader, struct_read}
use Rattle.default_defs.specs.Supplied.{parts_of as parts_read}
use Rattle.default_reading.specs.Seen.{Part, Variant, fields_in, kept, places_in, rest_tree, variants_in}
use Rattle.default_reading.specs.Steps.{Setting, missed, comes_in}

-- ---- atoms

same_itself : (q : Target) → same_target q q ≡ true
same_itself the_root = refl
same_itself (definition k) = (bytes_eq-Decides k k).1 refl

-- a table by which the reference leads to what takes any value
abbrev leading : Target → Table
leading q = record { targets = record { target = q; led_to = record { name = []; shape = newtype_shape any_entry None } } ∷ []; trees = [] }

module _ (s : Setting) (r : Relations) (v : Value) (m : ℕ) where
  -- what is said of a reference however many are followed, by any table, is said of nothing
  no_reference : (q : Target) (b : Bool) → ((t : Followed) → takes_in t r (reference q) v ≡ b) → (x : Found) → comes_in s r m (reference q) v ≡ x
  unfolding takes_in
  no_reference q b h x =
      let none : false ≡ b = h (record { table = leading q; most = 0 }) in
      let led : item_takes (shape_takes r v (parts_taken (leading q) r v) (follows (leading q) r v (parts_taken (leading q) r v) 0)) (cond (same_target q q) (Some (record { name = []; shape = newtype_shape any_entry None })) None) ≡ b = h (record { table = leading q; most = 1 }) in
      let found = ap (λ c. item_takes (shape_takes r v (parts_taken (leading q) r v) (follows (leading q) r v (parts_taken (leading q) r v) 0)) (cond c (Some (record { name = []; shape = newtype_shape any_entry None })) None)) (same_itself q) in
      absurd (true≢false (sym found ∙ led ∙ sym none))

  pub atom_comes : (a : Atom) (b : Bool) (x : Found) → ((t : Followed) → takes_in t r (atom_view a) v ≡ b) → x ≡ told b → comes_in s r m (atom_view a) v ≡ x
  unfolding takes_in comes_in
  atom_comes atoms.Bool b x h k = ap told (h (record { table = s.table; most = 0 })) ∙ sym k
  atom_comes (atoms.Integer g) b x h k = ap told (h (record { table = s.table; most = 0 })) ∙ sym k
  atom_comes atoms.Text b x h k = ap told (h (record { table = s.table; most = 0 })) ∙ sym k
  atom_comes (atoms.Native f) b x h k = ap told (h (record { table = s.table; most = 0 })) ∙ sym k
  atom_comes atoms.Any b x h k = ap told (h (record { table = s.table; most = 0 })) ∙ sym k
  atom_comes atoms.Unit b x h k = ap told (h (record { table = s.table; most = 0 })) ∙ sym k
  atom_comes (atoms.Reference q) b x h k = no_reference _ b h x

  -- ---- trees

  abbrev by : Tree → Found
  by x = comes_in s r m (tree_view x) v

  along : (x y : Tree) (e : Entry) (b : Found) → x ≡ y → tree_view y ≡ e → comes_in s r m e v ≡ b → by x ≡ b
  along x y e b h k l = ap by h ∙ ap (λ z. comes_in s r m z v) k ∙ l

  pub atom_tree : (x : Tree) (a : Atom) (b : Found) → x ≡ trees.Atom a → comes_in s r m (atom_view a) v ≡ b → by x ≡ b
  atom_tree x a b h k = along x (trees.Atom a) _ b h (atom_seen a) k

  pub one_tree : (x : Tree) (w : Wrap) (y : Box Tree Global) (z : Tree) (b : Found) → x ≡ trees.One w y → z ≡ y.value → comes_in s r m (wrapped w (tree_view z)) v ≡ b → by x ≡ b
  one_tree x w y z b h is k = along x (trees.One w y) _ b h (one_seen w y) (ap (λ u. comes_in s r m (wrapped w (tree_view u)) v) (sym is) ∙ k)

  pub map_tree : (x : Tree) (y z : Box Tree Global) (i j : Tree) (b : Found) → x ≡ trees.Map y z → i ≡ y.value → j ≡ z.value → comes_in s r m (map_entry (tree_view i) (tree_view j)) v ≡ b → by x ≡ b
  map_tree x y z i j b h is is' k = along x (trees.Map y z) _ b h (map_seen y z) ((λ u. comes_in s r m (map_entry (tree_view (sym is u)) (tree_view (sym is' u))) v) ∙ k)

  pub tuple_tree : (x : Tree) (ps : Vec Part Global) (qs : List Part) (b : Found) → x ≡ trees.Tuple ps → qs ≡ ps.items → comes_in s r m (tuple_entry (places_in qs)) v ≡ b → by x ≡ b
  tuple_tree x ps qs b h is k = along x (trees.Tuple ps) _ b h (tuple_seen ps) (ap (λ us. comes_in s r m (tuple_entry (places_in us)) v) (sym is) ∙ k)

  pub enum_tree : (x : Tree) (l : Label) (c : Bool) (tag : TagRow) (ws : Vec Variant Global) (us : List Variant) (b : Found) → x ≡ trees.Enum l c tag ws → us ≡ ws.items
      → ((n : List ℕ) → comes_in s r m (entry.item n (enum_shape c (tag_view tag) (variants_in (tag_view tag) us))) v ≡ b) → by x ≡ b
  enum_tree x l c tag ws us b h is k =
      along x (trees.Enum l c tag ws) _ b h (enum_seen l c tag ws) (ap (λ zs. comes_in s r m (entry.item (label_view l) (enum_shape c (tag_view tag) (variants_in (tag_view tag) zs))) v) (sym is) ∙ k (label_view l))

-- the identifier of the rest isn't asked
rest_seen : (o : Option (Label × Box Tree Global)) → next_field (rest_fields o) ≡ next_field (kept (rest_tree o))
rest_seen None = refl
rest_seen (Some p) = refl

next_seen : (ps : List Part) (o : Option (Label × Box Tree Global)) → next_field (fields_view (parts_of ps) (rest_fields o)) ≡ next_field (fields_in ps (rest_tree o))
next_seen [] o = rest_seen o
next_seen ((h, None) ∷ ps) o = next_seen ps o
next_seen ((h, Some x) ∷ ps) o = refl

fields_seen : (ps : List Part) (o : Option (Label × Box Tree Global)) → fields_of (fields_view (parts_of ps) (rest_fields o)) ≡ fields_of (fields_in ps (rest_tree o))
fields_seen [] None = refl
fields_seen [] (Some p) = refl
fields_seen ((h, None) ∷ ps) o = λ i. record { identifier = label_view h.label; name = h.label.wanted.now; entry = next_seen ps o i; state = entry.required } ∷ fields_seen ps o i
fields_seen ((h, Some x) ∷ ps) o = λ i. record { identifier = label_view h.label; name = h.label.wanted.now; entry = tree_view x; state = state_view h.state } ∷ fields_seen ps o i

pub rest_down : (ps : List Part) (g : Fields) → rest_of (fields_view (parts_of ps) g) ≡ rest_of g
rest_down [] g = refl
rest_down ((h, None) ∷ ps) g = rest_down ps g
rest_down ((h, Some x) ∷ ps) g = rest_down ps g

rest_alike : (missed : Entry → Value → Found) (c : Bool) (fs : List FieldEntry) (o : Option (Label × Box Tree Global)) (ps : Parts Reader) → struct_read missed c fs (rest_of (rest_fields o)) ps ≡ struct_read missed c fs (rest_of (kept (rest_tree o))) ps
rest_alike missed c fs None ps = refl
rest_alike missed c fs (Some p) no_parts = refl
rest_alike missed c fs (Some p) (list_parts js) = refl
rest_alike missed c fs (Some p) (object_parts ms) = refl

struct_seen_same : (s : Setting) (r : Relations) (v : Value) (m : ℕ) (n : List ℕ) (c : Bool) (ps : List Part) (o : Option (Label × Box Tree Global))
    → comes_in s r m (entry.item n (struct_shape c (fields_view (parts_of ps) (rest_fields o)))) v ≡ comes_in s r m (entry.item n (struct_shape c (fields_in ps (rest_tree o)))) v
unfolding comes_in
struct_seen_same s r v m n c ps o =
    (λ i. struct_read (missed s r) c (fields_seen ps o i) (rest_down ps (rest_fields o) i) (parts_read s.table r (missed s r) v))
    ∙ rest_alike (missed s r) c (fields_of (fields_in ps (rest_tree o))) o (parts_read s.table r (missed s r) v)
    ∙ (λ i. struct_read (missed s r) c (fields_of (fields_in ps (rest_tree o))) (sym (rest_down ps (kept (rest_tree o))) i) (parts_read s.table r (missed s r) v))

pub struct_tree : (s : Setting) (r : Relations) (v : Value) (m : ℕ) (x : Tree) (l : Label) (c : Bool) (ps : Vec Part Global) (o : Option (Label × Box Tree Global)) (qs : List Part) (q : Option Tree) (b : Found)
    → x ≡ trees.Struct l c ps o → qs ≡ ps.items → q ≡ rest_tree o → ((n : List ℕ) → comes_in s r m (entry.item n (struct_shape c (fields_in qs q))) v ≡ b) → comes_in s r m (tree_view x) v ≡ b
struct_tree s r v m x l c ps o qs q b h is it k =
    ap (λ y. comes_in s r m (tree_view y) v) h ∙ ap (λ z. comes_in s r m z v) (struct_seen l c ps o) ∙ struct_seen_same s r v m (label_view l) c ps.items o
    ∙ (λ i. comes_in s r m (entry.item (label_view l) (struct_shape c (fields_in (sym is i) (sym it i)))) v) ∙ k (label_view l)
