-- What a type means doesn't depend on spans.
use Rattle.std.proofs.Common.{◌≡◌, ◌&&◌, ℕ, true, false, cond, List, [], ◌∷◌, Some, None, refl, ap, sym, ◌∙◌, bytes_eq, codes}
use Rattle.std.specs.Prelude.{Option}
use Rattle.token_trees.specs.declared.token.Span.{Span}
use Rattle.syntax_trees.specs.Syntax.{TyD, ty_array, ty_tuple, ty_path, PathD, path, SegmentD, segment, ArgumentsD, no_arguments, angle, parens, GenericD, arg_ty, ExprD, ex_fixed, no_qself, Tys, end_tys, more_tys, Segments, end_segments, more_segments, Generics, end_generics, more_generics, has_no_arguments, segment_name}
use Rattle.token_trees.specs.Token.{digits}
use Rattle.syntax_parsers.specs.SpellingAside.{ty_at, tys_at, path_at, segments_at, segment_at, arguments_at, generics_at, generic_at, expr_at}
use Rattle.type_spellings.specs.Types.{three, Arguments, none_given, utc_given, others_given, Segment, spells, is_utc, is_utc_alone, given, path_type, literal_number, array_of, tuple_of, and_then, type_of}
use Rattle.model_defs.specs.Types.{TypeModel, TypeModels, outside_type, no_types, type_then}

-- the type that a tree spells, with its parts by name
abbrev mutual
  spelled : TyD → TypeModel
  spelled (ty_path no_qself p) = of_path p
  spelled (ty_tuple ts) = tuple_of (of_places ts)
  spelled (ty_array t e) = array_of (spelled t) (literal_number e)
  spelled _ = outside_type

  of_path : PathD → TypeModel
  of_path (path leading ss) = path_type leading (of_segments ss)

  of_segments : Segments → List Segment
  of_segments end_segments = []
  of_segments (more_segments s ss) = of_segment s ∷ of_segments ss

  of_segment : SegmentD → Segment
  of_segment (segment n a) = record { name = n.text; arguments = of_arguments a }

  of_arguments : ArgumentsD → Arguments
  of_arguments no_arguments = none_given
  of_arguments (angle true gs) = others_given
  of_arguments (angle false gs) = cond (is_utc_alone gs) utc_given (given (of_generics gs))
  of_arguments (parens ts o) = others_given

  of_generics : Generics → Option (List TypeModel)
  of_generics end_generics = Some []
  of_generics (more_generics g gs) = and_then (of_generic g) (of_generics gs)

  of_generic : GenericD → Option TypeModel
  of_generic (arg_ty t) = Some (spelled t)
  of_generic _ = None

  of_places : Tys → TypeModels
  of_places end_tys = no_types
  of_places (more_tys t ts) = type_then (spelled t) (of_places ts)

is_spelled : (t : TyD) → type_of t ≡ spelled t
is_spelled t = refl

module _ (s : Span) where
  bare_moved : (x : SegmentD) → has_no_arguments (segment_at s x) ≡ has_no_arguments x
  bare_moved (segment x no_arguments) = refl
  bare_moved (segment x (angle t gs)) = refl
  bare_moved (segment x (parens ts o)) = refl

  name_moved : (x : SegmentD) → segment_name (segment_at s x) ≡ segment_name x
  name_moved (segment x a) = refl

  spells_moved : (ss : Segments) (ns : List (List ℕ)) → spells (segments_at s ss) ns ≡ spells ss ns
  spells_moved end_segments [] = refl
  spells_moved end_segments (n ∷ ns) = refl
  spells_moved (more_segments x ss) [] = refl
  spells_moved (more_segments x ss) (n ∷ ns) =
      let bare = bare_moved x in
      let name = name_moved x in
      let rec = spells_moved ss ns in
      λ i. (bare i && bytes_eq (name i) n) && rec i

  utc_moved : (t : TyD) → is_utc (ty_at s t) ≡ is_utc t
  utc_moved (ty_path no_qself (path true ss)) = spells_moved ss (three (codes "chrono") (codes "offset") (codes "Utc"))
  utc_moved (ty_path no_qself (path false ss)) = refl
  utc_moved _ = refl

  alone_moved : (gs : Generics) → is_utc_alone (generics_at s gs) ≡ is_utc_alone gs
  alone_moved (more_generics (arg_ty t) end_generics) = utc_moved t
  alone_moved _ = refl

  length_moved : (e : ExprD) → literal_number (expr_at s e) ≡ literal_number e
  length_moved (ex_fixed (digits d) at) = refl
  length_moved _ = refl

  mutual
    ty_moved : (t : TyD) → spelled (ty_at s t) ≡ spelled t
    ty_moved (ty_path no_qself p) = path_moved p
    ty_moved (ty_tuple ts) = ap tuple_of (places_moved ts)
    ty_moved (ty_array t e) =
        let one = ty_moved t in
        let n = length_moved e in
        λ i. array_of (one i) (n i)
    ty_moved _ = refl

    path_moved : (p : PathD) → of_path (path_at s p) ≡ of_path p
    path_moved (path leading ss) = ap (path_type leading) (segments_moved ss)

    segments_moved : (ss : Segments) → of_segments (segments_at s ss) ≡ of_segments ss
    segments_moved end_segments = refl
    segments_moved (more_segments x ss) =
        let one = segment_moved x in
        let rec = segments_moved ss in
        λ i. one i ∷ rec i

    segment_moved : (x : SegmentD) → of_segment (segment_at s x) ≡ of_segment x
    segment_moved (segment n a) =
        let one = arguments_moved a in
        λ i. record { name = n.text; arguments = one i }

    arguments_moved : (a : ArgumentsD) → of_arguments (arguments_at s a) ≡ of_arguments a
    arguments_moved no_arguments = refl
    arguments_moved (angle true gs) = refl
    arguments_moved (angle false gs) =
        let alone = alone_moved gs in
        let rec = generics_moved gs in
        λ i. cond (alone i) utc_given (given (rec i))
    arguments_moved (parens ts o) = refl

    generics_moved : (gs : Generics) → of_generics (generics_at s gs) ≡ of_generics gs
    generics_moved end_generics = refl
    generics_moved (more_generics g gs) =
        let one = generic_moved g in
        let rec = generics_moved gs in
        λ i. and_then (one i) (rec i)

    generic_moved : (g : GenericD) → of_generic (generic_at s g) ≡ of_generic g
    generic_moved (arg_ty t) = ap Some (ty_moved t)
    generic_moved _ = refl

    places_moved : (ts : Tys) → of_places (tys_at s ts) ≡ of_places ts
    places_moved end_tys = refl
    places_moved (more_tys t ts) =
        let one = ty_moved t in
        let rec = places_moved ts in
        λ i. type_then (one i) (rec i)

  pub meaning_moved : (t : TyD) → type_of (ty_at s t) ≡ type_of t
  meaning_moved t = is_spelled (ty_at s t) ∙ ty_moved t ∙ sym (is_spelled t)
