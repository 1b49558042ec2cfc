-- Questions about types that decide what a field borrows (serde.rs, field attributes, `borrow`; The Rust Reference, types).
use Rattle.std.specs.Prelude.{ℕ, suc, ◌&&◌, ◌||◌, List, [], Bool, true, false, not, codes}
use Rattle.std.specs.Str.{bytes_eq}
use Rattle.syntax_trees.specs.Syntax.{TyD, ty_array, ty_fn, ty_group, ty_impl, ty_infer, ty_macro, ty_never, ty_paren, ty_path, ty_pointer, ty_reference, ty_slice, ty_object, ty_tuple, ty_verbatim, PathD, path, SegmentD, segment, ArgumentsD, no_arguments, angle, parens, GenericD, arg_lifetime, arg_ty, arg_const, arg_assoc_ty, arg_assoc_const, arg_constraint, MaybeQSelf, no_qself, some_qself, Segments, end_segments, more_segments, Generics, end_generics, more_generics, segment_name}
use Rattle.attr_parts.specs.declared.types.Elem.{Elem}
use Rattle.attr_parts.specs.declared.types.Elem.TheVariants.{Str, SliceU8}

-- what is asked of a type first: whether it is a group, a path (with a type before it or without), a slice, or a reference
pub data ShapeD : Type 0 where
  group_of : TyD → ShapeD
  path_of : Bool → PathD → ShapeD
  slice_of : TyD → ShapeD
  reference_of : Bool → TyD → ShapeD
  another : ShapeD

abbrev pub has_qself : MaybeQSelf → Bool
has_qself no_qself = false
has_qself (some_qself q) = true

abbrev pub shape : TyD → ShapeD
shape (ty_array t e) = another
shape (ty_fn ts o) = another
shape (ty_group t) = group_of t
shape (ty_impl bs) = another
shape (ty_infer s) = another
shape (ty_macro p ts) = another
shape (ty_never s) = another
shape (ty_paren t) = another
shape (ty_path q p) = path_of (has_qself q) p
shape (ty_pointer m t) = another
shape (ty_reference l m t) = reference_of m t
shape (ty_slice t) = slice_of t
shape (ty_object bs) = another
shape (ty_tuple ts) = another
shape (ty_verbatim ts) = another

-- the type inside all outer groups
abbrev pub ungrouped : TyD → TyD
ungrouped (ty_array t e) = ty_array t e
ungrouped (ty_fn ts o) = ty_fn ts o
ungrouped (ty_group t) = ungrouped t
ungrouped (ty_impl bs) = ty_impl bs
ungrouped (ty_infer s) = ty_infer s
ungrouped (ty_macro p ts) = ty_macro p ts
ungrouped (ty_never s) = ty_never s
ungrouped (ty_paren t) = ty_paren t
ungrouped (ty_path q p) = ty_path q p
ungrouped (ty_pointer m t) = ty_pointer m t
ungrouped (ty_reference l m t) = ty_reference l m t
ungrouped (ty_slice t) = ty_slice t
ungrouped (ty_object bs) = ty_object bs
ungrouped (ty_tuple ts) = ty_tuple ts
ungrouped (ty_verbatim ts) = ty_verbatim ts

abbrev pub are_none : Generics → Bool
are_none end_generics = true
are_none (more_generics g gs) = false

-- no arguments, or `<>`
abbrev pub is_bare : ArgumentsD → Bool
is_bare no_arguments = true
is_bare (angle t gs) = are_none gs
is_bare (parens ts o) = false

abbrev pub is_bare_segment : List ℕ → SegmentD → Bool
is_bare_segment n (segment x a) = bytes_eq x.text n && is_bare a

abbrev pub is_one_segment : List ℕ → Segments → Bool
is_one_segment n end_segments = false
is_one_segment n (more_segments s end_segments) = is_bare_segment n s
is_one_segment n (more_segments s (more_segments t ss)) = false

-- no `::` in front, and that one segment
abbrev pub is_single : List ℕ → PathD → Bool
is_single n (path leading ss) = not leading && is_one_segment n ss

abbrev pub is_named_shape : List ℕ → ShapeD → Bool
is_named_shape n (group_of t) = false
is_named_shape n (path_of q p) = not q && is_single n p
is_named_shape n (slice_of t) = false
is_named_shape n (reference_of m t) = false
is_named_shape n another = false

-- whether the type is named n
abbrev pub is_named : List ℕ → TyD → Bool
is_named n t = is_named_shape n (shape (ungrouped t))

abbrev pub is_bytes_shape : ShapeD → Bool
is_bytes_shape (group_of t) = false
is_bytes_shape (path_of q p) = false
is_bytes_shape (slice_of t) = is_named (codes "u8") t
is_bytes_shape (reference_of m t) = false
is_bytes_shape another = false

-- a type named `str`, or a slice of a type named `u8`
abbrev pub is_elem : Elem → TyD → Bool
is_elem Str t = is_named (codes "str") t
is_elem SliceU8 t = is_bytes_shape (shape (ungrouped t))

-- what stands between `<` and `>`, where the segment has that name
abbrev pub angle_args : ArgumentsD → Generics
angle_args no_arguments = end_generics
angle_args (angle t gs) = gs
angle_args (parens ts o) = end_generics

abbrev pub last_name : Segments → List ℕ
last_name end_segments = []
last_name (more_segments s end_segments) = segment_name s
last_name (more_segments s (more_segments t ss)) = last_name (more_segments t ss)

abbrev pub segment_args : SegmentD → Generics
segment_args (segment x a) = angle_args a

-- the angle arguments of the last segment
abbrev pub last_args : Segments → Generics
last_args end_segments = end_generics
last_args (more_segments s end_segments) = segment_args s
last_args (more_segments s (more_segments t ss)) = last_args (more_segments t ss)

abbrev pub is_lifetime : GenericD → Bool
is_lifetime (arg_lifetime l) = true
is_lifetime (arg_ty t) = false
is_lifetime (arg_const e) = false
is_lifetime (arg_assoc_ty x t) = false
is_lifetime (arg_assoc_const x e) = false
is_lifetime (arg_constraint x bs) = false

abbrev pub is_elem_arg : Elem → GenericD → Bool
is_elem_arg k (arg_lifetime l) = false
is_elem_arg k (arg_ty t) = is_elem k t
is_elem_arg k (arg_const e) = false
is_elem_arg k (arg_assoc_ty x t) = false
is_elem_arg k (arg_assoc_const x e) = false
is_elem_arg k (arg_constraint x bs) = false

-- a lifetime, and then a type that is that element
abbrev pub are_cow_args : Elem → Generics → Bool
are_cow_args k end_generics = false
are_cow_args k (more_generics a end_generics) = false
are_cow_args k (more_generics a (more_generics b end_generics)) = is_lifetime a && is_elem_arg k b
are_cow_args k (more_generics a (more_generics b (more_generics c gs))) = false

abbrev pub is_cow_path : Elem → PathD → Bool
is_cow_path k (path leading ss) = bytes_eq (last_name ss) (codes "Cow") && are_cow_args k (last_args ss)

abbrev pub is_cow_shape : Elem → ShapeD → Bool
is_cow_shape k (group_of t) = false
is_cow_shape k (path_of q p) = is_cow_path k p
is_cow_shape k (slice_of t) = false
is_cow_shape k (reference_of m t) = false
is_cow_shape k another = false

-- a `Cow` of a lifetime and that element
abbrev pub is_cow_of : Elem → TyD → Bool
is_cow_of k t = is_cow_shape k (shape (ungrouped t))

abbrev pub is_borrowed_shape : ShapeD → Bool
is_borrowed_shape (group_of t) = false
is_borrowed_shape (path_of q p) = false
is_borrowed_shape (slice_of t) = false
is_borrowed_shape (reference_of m t) = not m && (is_elem Str t || is_elem SliceU8 t)
is_borrowed_shape another = false

-- `&str` or `&[u8]`
abbrev pub is_borrowed_reference : TyD → Bool
is_borrowed_reference t = is_borrowed_shape (shape (ungrouped t))

abbrev pub is_borrowed_arg : GenericD → Bool
is_borrowed_arg (arg_lifetime l) = false
is_borrowed_arg (arg_ty t) = is_borrowed_reference t
is_borrowed_arg (arg_const e) = false
is_borrowed_arg (arg_assoc_ty x t) = false
is_borrowed_arg (arg_assoc_const x e) = false
is_borrowed_arg (arg_constraint x bs) = false

abbrev pub are_option_args : Generics → Bool
are_option_args end_generics = false
are_option_args (more_generics a end_generics) = is_borrowed_arg a
are_option_args (more_generics a (more_generics b gs)) = false

abbrev pub is_option_path : PathD → Bool
is_option_path (path leading ss) = bytes_eq (last_name ss) (codes "Option") && are_option_args (last_args ss)

abbrev pub is_option_shape : ShapeD → Bool
is_option_shape (group_of t) = false
is_option_shape (path_of q p) = is_option_path p
is_option_shape (slice_of t) = false
is_option_shape (reference_of m t) = false
is_option_shape another = false

-- such a reference, or an `Option` of one
abbrev pub borrows_implicitly : TyD → Bool
borrows_implicitly t = is_borrowed_reference t || is_option_shape (shape (ungrouped t))

-- how many groups stand round the type
abbrev pub groups : TyD → ℕ
groups (ty_array t e) = 0
groups (ty_fn ts o) = 0
groups (ty_group t) = suc (groups t)
groups (ty_impl bs) = 0
groups (ty_infer s) = 0
groups (ty_macro p ts) = 0
groups (ty_never s) = 0
groups (ty_paren t) = 0
groups (ty_path q p) = 0
groups (ty_pointer m t) = 0
groups (ty_reference l m t) = 0
groups (ty_slice t) = 0
groups (ty_object bs) = 0
groups (ty_tuple ts) = 0
groups (ty_verbatim ts) = 0

abbrev pub path_segments : PathD → Segments
path_segments (path leading ss) = ss
