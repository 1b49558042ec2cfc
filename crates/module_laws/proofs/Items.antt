-- The declaration of an item, part by part.
use Rattle.std.proofs.Common.{◌≡◌, ℕ, Bool, true, false, List, [], ◌∷◌, ◌++◌, Option, Some, None, codes, refl, ap, sym, subst, ◌∙◌, append_assoc, append-nil}
use Rattle.std.specs.Prelude.{◌&&◌, if◌then◌else◌}
use Rattle.token_trees.specs.declared.token.Delimiter.TheVariants.{Parenthesis, Brace}
use Rattle.token_trees.specs.declared.token.Spacing.TheVariants.{Alone}
use Rattle.token_trees.specs.Token.{Tok, Name}
use Rattle.token_trees.specs.Text.{Piece, name, sign, opens, closes, pieces_of}
use Rattle.token_trees.proofs.Texts.{inner_pieces_of, pieces_of_append}
use Rattle.syntax_trees.specs.Item.{MetaD, FieldD, FieldsD, named_fields, unnamed_fields, unit_fields, VariantD, BodyD, struct_body, enum_body, union_body, ItemD}
use Rattle.syntax_printing.specs.Print.{sign as print_sign, print_name, print_ty, within_braces, within_parens}
use Rattle.rust_syntax.specs.PrintItem.{print_attribute, print_attributes, print_label, print_field, print_each_field, print_fields, print_variant, print_each_variant, print_kind, print_angle, print_struct_end, print_end, print_item}
use Rattle.tidy_texts.specs.Comment.{doc_comment}
use Rattle.tidy_laws.proofs.Kept.{IsRead, read_has}
use Rattle.module_texts.specs.Tokens.{attribute_text, type_text}
use Rattle.module_texts.specs.Attributes.{attribute_lines}
use Rattle.module_texts.specs.Fields.{label, broken_label, plain_field, broken_field, is_wide_field, declared_field, field_line, field_lines, braced_text, attributes_inline, place_text, more_places, places_text, variant_fields, variant_line, variant_lines, variants_text}
use Rattle.module_texts.specs.Items.{keyword, struct_text, body_text, derive_line, long_line, hash_where, holds, is_long, item_text}
use Rattle.module_laws.specs.Shown.{visible, shown_field, shown_each, shown_more, shown_places, shown_fields, shown_variant, shown_variants, shown_struct, shown_body, shown_item}
use Rattle.module_laws.specs.Laws.{declared_text, text_before, text_behind, IsBare, ItemsKeepTokens}
use Rattle.module_laws.proofs.Joins.{IsBefore, IsStopping, before_then, before_read, read_then, stopping_then, before_is, read_is, stopping_is, stopping_text, Are, are_first, are_last, are_inside, tokens_read, name_read}
use Rattle.module_laws.proofs.Signs.{nothing, space, four, eight, pub_word, struct_word, enum_word, union_word, comma_line, comma, colon, colon_line, semicolon, opening_line, closing_brace, no_braced, opening, closing, no_places}
use Rattle.module_laws.proofs.Attributes.{attributes_read}
use Rattle.module_laws.proofs.Printing.{shown_is_printed}

abbrev P : List Tok → List Piece
P ts = pieces_of ts

abbrev end_comma : Piece
end_comma = sign 44 Alone

-- ---- attributes

inline_reads : (ms : List MetaD) → Are (print_attributes ms) → IsBefore (attributes_inline ms) (P (print_attributes ms))
inline_reads [] h = nothing
inline_reads (m ∷ ms) h =
    before_is (attributes_inline (m ∷ ms)) (P (print_attribute m) ++ P (print_attributes ms)) (P (print_attributes (m ∷ ms))) (sym (pieces_of_append (print_attribute m) (print_attributes ms)))
    (before_then (attribute_text m ++ codes " ") (attributes_inline ms) (P (print_attribute m)) (P (print_attributes ms))
    (before_is (attribute_text m ++ codes " ") (P (print_attribute m) ++ []) (P (print_attribute m)) (append-nil (P (print_attribute m)))
    (read_then (attribute_text m) (codes " ") (P (print_attribute m)) [] (tokens_read (print_attribute m) (are_first (print_attribute m) (print_attributes ms) h)) space))
    (inline_reads ms (are_last (print_attribute m) (print_attributes ms) h)))

label_reads : (o : Option Name) → Are (print_label o) → IsBefore (label o) (P (print_label o))
label_reads None h = nothing
label_reads (Some n) h = read_then n.text (codes ": ") (name n.text ∷ []) (sign 58 Alone ∷ []) (name_read n h.0) colon

-- with the type on the next line
broken_label_reads : (indent : List ℕ) → IsBefore indent [] → (o : Option Name) → Are (print_label o) → IsBefore (broken_label indent o) (P (print_label o))
broken_label_reads indent k None h = nothing
broken_label_reads indent k (Some n) h =
    read_then n.text (codes ":\n" ++ (indent ++ codes "    ")) (name n.text ∷ []) (sign 58 Alone ∷ []) (name_read n h.0)
    (stopping_then (codes ":\n") (indent ++ codes "    ") (sign 58 Alone ∷ []) [] colon_line (before_then indent (codes "    ") [] [] k four))

-- ---- fields

record HasParts (f : FieldD) : Type 0 where
  pub attributes : Are (print_attributes f.attrs)
  pub label : Are (print_label f.name)
  pub type : Are (print_ty f.ty)

parts_of : (f : FieldD) → Are (print_field f) → HasParts f
parts_of f h =
    let front = are_first (print_attributes f.attrs ++ print_label f.name) (print_ty f.ty) h in
    record {
      attributes = are_first (print_attributes f.attrs) (print_label f.name) front;
      label = are_last (print_attributes f.attrs) (print_label f.name) front;
      type = are_last (print_attributes f.attrs ++ print_label f.name) (print_ty f.ty) h;
    }

first_field : (f : FieldD) (fs : List FieldD) → Are (print_each_field (f ∷ fs)) → Are (print_field f)
first_field f fs h = are_first (print_field f) (print_sign 44 ∷ print_each_field fs) h

other_fields : (f : FieldD) (fs : List FieldD) → Are (print_each_field (f ∷ fs)) → Are (print_each_field fs)
other_fields f fs h = (are_last (print_field f) (print_sign 44 ∷ print_each_field fs) h).1

field_is : (seen : Bool) (f : FieldD) → P (shown_field seen f) ≡ P (print_attributes f.attrs) ++ (P (visible seen) ++ (P (print_label f.name) ++ P (print_ty f.ty)))
field_is seen f =
    let A = P (print_attributes f.attrs) in
    let V = P (visible seen) in
    let L = P (print_label f.name) in
    let T = P (print_ty f.ty) in
    pieces_of_append (print_attributes f.attrs ++ (visible seen ++ print_label f.name)) (print_ty f.ty)
    ∙ ap (λ z. z ++ T) (pieces_of_append (print_attributes f.attrs) (visible seen ++ print_label f.name) ∙ ap (λ z. A ++ z) (pieces_of_append (visible seen) (print_label f.name)))
    ∙ append_assoc A (V ++ L) T
    ∙ ap (λ z. A ++ z) (append_assoc V L T)

-- with names
regrouped : (a v l t c : List Piece) → a ++ (v ++ (l ++ (t ++ c))) ≡ (a ++ (v ++ (l ++ t))) ++ c
regrouped a v l t c = sym (append_assoc a (v ++ (l ++ t)) c ∙ ap (λ z. a ++ z) (append_assoc v (l ++ t) c ∙ ap (λ z. v ++ z) (append_assoc l t c)))

each_is : (seen : Bool) (f : FieldD) (fs : List FieldD) → (P (shown_field seen f) ++ end_comma ∷ []) ++ P (shown_each seen fs) ≡ P (shown_each seen (f ∷ fs))
each_is seen f fs = append_assoc (P (shown_field seen f)) (end_comma ∷ []) (P (shown_each seen fs)) ∙ sym (pieces_of_append (shown_field seen f) (print_sign 44 ∷ shown_each seen fs))

module _ (inner visibility : List ℕ) (seen : Bool) (i : IsBefore inner []) (v : IsBefore visibility (P (visible seen))) where
  declared_case : (f : FieldD) → HasParts f → (b : Bool) → IsBefore (if b then broken_field inner visibility f else plain_field inner visibility f) (P (visible seen) ++ (P (print_label f.name) ++ (P (print_ty f.ty) ++ end_comma ∷ [])))
  declared_case f p true =
      let V = P (visible seen) in
      let L = P (print_label f.name) in
      let T = P (print_ty f.ty) in
      let c : List Piece = end_comma ∷ [] in
      before_then inner (visibility ++ (broken_label inner f.name ++ (type_text f.ty ++ codes ",\n"))) [] (V ++ (L ++ (T ++ c))) i
      (before_then visibility (broken_label inner f.name ++ (type_text f.ty ++ codes ",\n")) V (L ++ (T ++ c)) v
      (before_then (broken_label inner f.name) (type_text f.ty ++ codes ",\n") L (T ++ c) (broken_label_reads inner i f.name p.label)
      (read_then (type_text f.ty) (codes ",\n") T c (tokens_read (print_ty f.ty) p.type) comma_line)))
  declared_case f p false =
      let V = P (visible seen) in
      let L = P (print_label f.name) in
      let T = P (print_ty f.ty) in
      let c : List Piece = end_comma ∷ [] in
      before_then inner (visibility ++ (label f.name ++ (type_text f.ty ++ codes ",\n"))) [] (V ++ (L ++ (T ++ c))) i
      (before_then visibility (label f.name ++ (type_text f.ty ++ codes ",\n")) V (L ++ (T ++ c)) v
      (before_then (label f.name) (type_text f.ty ++ codes ",\n") L (T ++ c) (label_reads f.name p.label)
      (read_then (type_text f.ty) (codes ",\n") T c (tokens_read (print_ty f.ty) p.type) comma_line)))

  field_reads : (f : FieldD) → Are (print_field f) → IsBefore (field_line inner visibility f) (P (shown_field seen f) ++ end_comma ∷ [])
  field_reads f h =
      let p = parts_of f h in
      let A = P (print_attributes f.attrs) in
      let V = P (visible seen) in
      let L = P (print_label f.name) in
      let T = P (print_ty f.ty) in
      let c : List Piece = end_comma ∷ [] in
      before_is (field_line inner visibility f) (A ++ (V ++ (L ++ (T ++ c)))) (P (shown_field seen f) ++ c) (regrouped A V L T c ∙ ap (λ z. z ++ c) (sym (field_is seen f)))
      (before_then (attribute_lines inner f.attrs) (declared_field inner visibility f) A (V ++ (L ++ (T ++ c))) (attributes_read inner i f.attrs p.attributes) (declared_case f p (is_wide_field inner visibility f)))

  fields_read : (fs : List FieldD) → Are (print_each_field fs) → IsBefore (field_lines inner visibility fs) (P (shown_each seen fs))
  fields_read [] h = nothing
  fields_read (f ∷ fs) h =
      before_is (field_lines inner visibility (f ∷ fs)) ((P (shown_field seen f) ++ end_comma ∷ []) ++ P (shown_each seen fs)) (P (shown_each seen (f ∷ fs))) (each_is seen f fs)
      (before_then (field_line inner visibility f) (field_lines inner visibility fs) (P (shown_field seen f) ++ end_comma ∷ []) (P (shown_each seen fs))
      (field_reads f (first_field f fs h)) (fields_read fs (other_fields f fs h)))

braces_are : (ts : List Tok) → P (within_braces ts ∷ []) ≡ opens Brace ∷ (P ts ++ closes Brace ∷ [])
braces_are ts = append-nil _ ∙ ap (λ z. opens Brace ∷ (z ++ closes Brace ∷ [])) (inner_pieces_of ts)

parens_are : (ts : List Tok) → P (within_parens ts ∷ []) ≡ opens Parenthesis ∷ (P ts ++ closes Parenthesis ∷ [])
parens_are ts = append-nil _ ∙ ap (λ z. opens Parenthesis ∷ (z ++ closes Parenthesis ∷ [])) (inner_pieces_of ts)

in_braces : (ts : List Tok) → Are (within_braces ts ∷ []) → Are ts
in_braces ts = are_inside (opens Brace) (closes Brace) ts (within_braces ts ∷ []) (braces_are ts)

in_parens : (ts : List Tok) → Are (within_parens ts ∷ []) → Are ts
in_parens ts = are_inside (opens Parenthesis) (closes Parenthesis) ts (within_parens ts ∷ []) (parens_are ts)

-- a first line, the others, and the brace
lined : (a b : List Piece) (ts : List Tok) → a ++ b ≡ P ts → opens Brace ∷ (a ++ (b ++ closes Brace ∷ [])) ≡ P (within_braces ts ∷ [])
lined a b ts e = ap (λ z. opens Brace ∷ z) (sym (append_assoc a b (closes Brace ∷ [])) ∙ ap (λ z. z ++ closes Brace ∷ []) e) ∙ sym (braces_are ts)

module _ (indent inner visibility : List ℕ) (seen : Bool) (o : IsBefore indent []) (i : IsBefore inner []) (v : IsBefore visibility (P (visible seen))) where
  braced_reads : (fs : List FieldD) → Are (print_each_field fs) → IsStopping (braced_text indent inner visibility fs) (P (within_braces (shown_each seen fs) ∷ []))
  braced_reads [] h = no_braced
  braced_reads (f ∷ fs) h =
      let a : List Piece = P (shown_field seen f) ++ end_comma ∷ [] in
      let b = P (shown_each seen fs) in
      let z : List Piece = closes Brace ∷ [] in
      stopping_is (braced_text indent inner visibility (f ∷ fs)) (opens Brace ∷ (a ++ (b ++ z))) (P (within_braces (shown_each seen (f ∷ fs)) ∷ [])) (lined a b (shown_each seen (f ∷ fs)) (each_is seen f fs))
      (stopping_then (codes " {\n") (field_line inner visibility f ++ (field_lines inner visibility fs ++ (indent ++ codes "}"))) (opens Brace ∷ []) (a ++ (b ++ z)) opening_line
      (before_then (field_line inner visibility f) (field_lines inner visibility fs ++ (indent ++ codes "}")) a (b ++ z) (field_reads inner visibility seen i v f (first_field f fs h))
      (before_then (field_lines inner visibility fs) (indent ++ codes "}") b z (fields_read inner visibility seen i v fs (other_fields f fs h)) (before_then indent (codes "}") [] z o closing_brace))))

-- without
module _ (visibility : List ℕ) (seen : Bool) (v : IsBefore visibility (P (visible seen))) where
  place_reads : (f : FieldD) → Are (print_field f) → IsRead (place_text visibility f) (P (shown_field seen f))
  place_reads f h =
      let p = parts_of f h in
      let A = P (print_attributes f.attrs) in
      let V = P (visible seen) in
      let L = P (print_label f.name) in
      let T = P (print_ty f.ty) in
      read_is (place_text visibility f) (A ++ (V ++ (L ++ T))) (P (shown_field seen f)) (sym (field_is seen f))
      (before_read (attributes_inline f.attrs) (visibility ++ (label f.name ++ type_text f.ty)) A (V ++ (L ++ T)) (inline_reads f.attrs p.attributes)
      (before_read visibility (label f.name ++ type_text f.ty) V (L ++ T) v (before_read (label f.name) (type_text f.ty) L T (label_reads f.name p.label) (tokens_read (print_ty f.ty) p.type))))

  rest_reads : (fs : List FieldD) → Are (print_each_field fs) → IsStopping (more_places visibility fs ++ codes ")") (P (shown_more seen false fs) ++ closes Parenthesis ∷ [])
  rest_reads [] h = closing
  rest_reads (f ∷ fs) h =
      let a = P (shown_field seen f) in
      let b = P (shown_more seen false fs) in
      let z : List Piece = closes Parenthesis ∷ [] in
      let text : codes ", " ++ (place_text visibility f ++ (more_places visibility fs ++ codes ")")) ≡ more_places visibility (f ∷ fs) ++ codes ")" =
      sym (append_assoc (codes ", ") (place_text visibility f) (more_places visibility fs ++ codes ")")) ∙ sym (append_assoc (codes ", " ++ place_text visibility f) (more_places visibility fs) (codes ")")) in
      let whole : end_comma ∷ (a ++ (b ++ z)) ≡ P (shown_more seen false (f ∷ fs)) ++ z =
      ap (λ y. end_comma ∷ y) (sym (append_assoc a b z) ∙ ap (λ y. y ++ z) (sym (pieces_of_append (shown_field seen f) (shown_more seen false fs)))) in
      stopping_text (codes ", " ++ (place_text visibility f ++ (more_places visibility fs ++ codes ")"))) (more_places visibility (f ∷ fs) ++ codes ")") (P (shown_more seen false (f ∷ fs)) ++ z) text
      (stopping_is (codes ", " ++ (place_text visibility f ++ (more_places visibility fs ++ codes ")"))) (end_comma ∷ (a ++ (b ++ z))) (P (shown_more seen false (f ∷ fs)) ++ z) whole
      (stopping_then (codes ", ") (place_text visibility f ++ (more_places visibility fs ++ codes ")")) (end_comma ∷ []) (a ++ (b ++ z)) comma
      (read_then (place_text visibility f) (more_places visibility fs ++ codes ")") a (b ++ z) (place_reads f (first_field f fs h)) (rest_reads fs (other_fields f fs h)))))

  places_read : (fs : List FieldD) → Are (print_each_field fs) → IsStopping (places_text visibility fs) (P (within_parens (shown_places seen false fs) ∷ []))
  places_read [] h = no_places
  places_read (f ∷ fs) h =
      let a = P (shown_field seen f) in
      let b = P (shown_more seen false fs) in
      let z : List Piece = closes Parenthesis ∷ [] in
      let whole : opens Parenthesis ∷ (a ++ (b ++ z)) ≡ P (within_parens (shown_places seen false (f ∷ fs)) ∷ []) =
      ap (λ y. opens Parenthesis ∷ y) (sym (append_assoc a b z) ∙ ap (λ y. y ++ z) (sym (pieces_of_append (shown_field seen f) (shown_more seen false fs)))) ∙ sym (parens_are (shown_places seen false (f ∷ fs))) in
      stopping_is (places_text visibility (f ∷ fs)) (opens Parenthesis ∷ (a ++ (b ++ z))) (P (within_parens (shown_places seen false (f ∷ fs)) ∷ [])) whole
      (stopping_then (codes "(") (place_text visibility f ++ (more_places visibility fs ++ codes ")")) (opens Parenthesis ∷ []) (a ++ (b ++ z)) opening
      (read_then (place_text visibility f) (more_places visibility fs ++ codes ")") a (b ++ z) (place_reads f (first_field f fs h)) (rest_reads fs (other_fields f fs h))))

-- ---- variants

variant_rest : (fs : FieldsD) → Are (print_fields fs) → IsStopping (variant_fields fs ++ codes ",\n") (P (shown_fields false false fs) ++ end_comma ∷ [])
variant_rest (named_fields fs) h =
    stopping_then (variant_fields (named_fields fs)) (codes ",\n") (P (shown_fields false false (named_fields fs))) (end_comma ∷ [])
    (braced_reads (codes "    ") (codes "        ") [] false four eight nothing fs (in_braces (print_each_field fs) h)) comma_line.before
variant_rest (unnamed_fields fs) h =
    stopping_then (variant_fields (unnamed_fields fs)) (codes ",\n") (P (shown_fields false false (unnamed_fields fs))) (end_comma ∷ [])
    (places_read [] false nothing fs (in_parens (print_each_field fs) h)) comma_line.before
variant_rest unit_fields h = comma_line

variant_reads : (v : VariantD) → Are (print_variant v) → IsBefore (variant_line v) (P (shown_variant false v) ++ end_comma ∷ [])
variant_reads v h =
    let A = P (print_attributes v.attrs) in
    let N : List Piece = name v.name.text ∷ [] in
    let F = P (shown_fields false false v.fields) in
    let c : List Piece = end_comma ∷ [] in
    let rest = are_last (print_attributes v.attrs) (print_name v.name ∷ print_fields v.fields) h in
    let whole : A ++ (N ++ (F ++ c)) ≡ P (shown_variant false v) ++ c =
    sym (append_assoc A (N ++ F) c) ∙ ap (λ z. z ++ c) (sym (pieces_of_append (print_attributes v.attrs) (print_name v.name ∷ shown_fields false false v.fields))) in
    before_is (variant_line v) (A ++ (N ++ (F ++ c))) (P (shown_variant false v) ++ c) whole
    (before_then (attribute_lines (codes "    ") v.attrs) (codes "    " ++ (v.name.text ++ (variant_fields v.fields ++ codes ",\n"))) A (N ++ (F ++ c))
    (attributes_read (codes "    ") four v.attrs (are_first (print_attributes v.attrs) (print_name v.name ∷ print_fields v.fields) h))
    (before_then (codes "    ") (v.name.text ++ (variant_fields v.fields ++ codes ",\n")) [] (N ++ (F ++ c)) four
    (read_then v.name.text (variant_fields v.fields ++ codes ",\n") N (F ++ c) (name_read v.name rest.0) (variant_rest v.fields rest.1))))

variants_are : (v : VariantD) (vs : List VariantD) → (P (shown_variant false v) ++ end_comma ∷ []) ++ P (shown_variants false vs) ≡ P (shown_variants false (v ∷ vs))
variants_are v vs = append_assoc (P (shown_variant false v)) (end_comma ∷ []) (P (shown_variants false vs)) ∙ sym (pieces_of_append (shown_variant false v) (print_sign 44 ∷ shown_variants false vs))

first_variant : (v : VariantD) (vs : List VariantD) → Are (print_each_variant (v ∷ vs)) → Are (print_variant v)
first_variant v vs h = are_first (print_variant v) (print_sign 44 ∷ print_each_variant vs) h

other_variants : (v : VariantD) (vs : List VariantD) → Are (print_each_variant (v ∷ vs)) → Are (print_each_variant vs)
other_variants v vs h = (are_last (print_variant v) (print_sign 44 ∷ print_each_variant vs) h).1

variants_read : (vs : List VariantD) → Are (print_each_variant vs) → IsBefore (variant_lines vs) (P (shown_variants false vs))
variants_read [] h = nothing
variants_read (v ∷ vs) h =
    before_is (variant_lines (v ∷ vs)) ((P (shown_variant false v) ++ end_comma ∷ []) ++ P (shown_variants false vs)) (P (shown_variants false (v ∷ vs))) (variants_are v vs)
    (before_then (variant_line v) (variant_lines vs) (P (shown_variant false v) ++ end_comma ∷ []) (P (shown_variants false vs)) (variant_reads v (first_variant v vs h)) (variants_read vs (other_variants v vs h)))

enum_reads : (vs : List VariantD) → Are (print_each_variant vs) → IsStopping (variants_text vs) (P (within_braces (shown_variants false vs) ∷ []))
enum_reads [] h = no_braced
enum_reads (v ∷ vs) h =
    let a : List Piece = P (shown_variant false v) ++ end_comma ∷ [] in
    let b = P (shown_variants false vs) in
    let z : List Piece = closes Brace ∷ [] in
    stopping_is (variants_text (v ∷ vs)) (opens Brace ∷ (a ++ (b ++ z))) (P (within_braces (shown_variants false (v ∷ vs)) ∷ [])) (lined a b (shown_variants false (v ∷ vs)) (variants_are v vs))
    (stopping_then (codes " {\n") (variant_line v ++ (variant_lines vs ++ codes "}")) (opens Brace ∷ []) (a ++ (b ++ z)) opening_line
    (before_then (variant_line v) (variant_lines vs ++ codes "}") a (b ++ z) (variant_reads v (first_variant v vs h))
    (before_then (variant_lines vs) (codes "}") b z (variants_read vs (other_variants v vs h)) closing_brace)))

-- ---- items

struct_reads : (fs : FieldsD) → Are (print_struct_end [] fs) → IsStopping (struct_text fs) (P (shown_struct true false fs))
struct_reads (named_fields fs) h = braced_reads [] (codes "    ") (codes "pub ") true nothing four pub_word fs (in_braces (print_each_field fs) h)
struct_reads (unnamed_fields fs) h =
    let F = shown_fields true false (unnamed_fields fs) in
    stopping_is (struct_text (unnamed_fields fs)) (P F ++ sign 59 Alone ∷ []) (P (shown_struct true false (unnamed_fields fs))) (sym (pieces_of_append F (print_sign 59 ∷ [])))
    (stopping_then (places_text (codes "pub ") fs) (codes ";") (P F) (sign 59 Alone ∷ [])
    (places_read (codes "pub ") true pub_word fs (in_parens (print_each_field fs) (are_first (print_fields (unnamed_fields fs)) (print_sign 59 ∷ []) h))) semicolon.before)
struct_reads unit_fields h = semicolon

body_reads : (b : BodyD) → Are (print_end [] b) → IsStopping (body_text b) (P (shown_body true false b))
body_reads (struct_body fs at) h = struct_reads fs h
body_reads (enum_body vs at) h = enum_reads vs (in_braces (print_each_variant vs) h)
body_reads (union_body fs at) h = braced_reads [] (codes "    ") (codes "pub ") true nothing four pub_word fs (in_braces (print_each_field fs) h)

kind_reads : (b : BodyD) → IsBefore (keyword b) (P (print_kind b ∷ []))
kind_reads (struct_body fs at) = struct_word
kind_reads (enum_body vs at) = enum_word
kind_reads (union_body fs at) = union_word

-- what stands behind attributes
kind_first : (b : BodyD) (n : Name) (ts : List Tok) → P (print_kind b ∷ print_name n ∷ ts) ≡ P (print_kind b ∷ []) ++ ((name n.text ∷ []) ++ P ts)
kind_first (struct_body fs at) n ts = refl
kind_first (enum_body vs at) n ts = refl
kind_first (union_body fs at) n ts = refl

behind_kind : (b : BodyD) (n : Name) (ts : List Tok) → Are (print_kind b ∷ print_name n ∷ ts) → Are (print_name n ∷ ts)
behind_kind b n ts h = are_last (print_kind b ∷ []) (print_name n ∷ ts) h

bare_tokens : (i : ItemD) → IsBare i → print_item i ≡ print_attributes i.attrs ++ (print_kind i.body ∷ print_name i.name ∷ print_end [] i.body)
bare_tokens i h = λ j. print_attributes i.attrs ++ (print_kind i.body ∷ print_name i.name ∷ print_angle (h.params j) ++ print_end (h.predicates j) i.body)

item_is : (i : ItemD) → P (print_attributes i.attrs) ++ ((name (codes "pub") ∷ []) ++ (P (print_kind i.body ∷ []) ++ ((name i.name.text ∷ []) ++ P (shown_body true false i.body)))) ≡ P (shown_item true false i)
item_is i =
    ap (λ z. P (print_attributes i.attrs) ++ (name (codes "pub") ∷ z)) (sym (kind_first i.body i.name (shown_body true false i.body)))
    ∙ sym (pieces_of_append (print_attributes i.attrs) (visible true ++ (print_kind i.body ∷ print_name i.name ∷ shown_body true false i.body)))

item_reads : (i : ItemD) → Are (print_attributes i.attrs ++ (print_kind i.body ∷ print_name i.name ∷ print_end [] i.body)) → IsBefore (declared_text i) (P (shown_item true false i))
item_reads i h =
    let A = P (print_attributes i.attrs) in
    let K = P (print_kind i.body ∷ []) in
    let N : List Piece = name i.name.text ∷ [] in
    let B = P (shown_body true false i.body) in
    let rest = behind_kind i.body i.name (print_end [] i.body) (are_last (print_attributes i.attrs) (print_kind i.body ∷ print_name i.name ∷ print_end [] i.body) h) in
    before_is (declared_text i) (A ++ ((name (codes "pub") ∷ []) ++ (K ++ (N ++ B)))) (P (shown_item true false i)) (item_is i)
    (before_then (attribute_lines [] i.attrs) (codes "pub " ++ (keyword i.body ++ (i.name.text ++ body_text i.body))) A ((name (codes "pub") ∷ []) ++ (K ++ (N ++ B)))
    (attributes_read [] nothing i.attrs (are_first (print_attributes i.attrs) (print_kind i.body ∷ print_name i.name ∷ print_end [] i.body) h))
    (before_then (codes "pub ") (keyword i.body ++ (i.name.text ++ body_text i.body)) (name (codes "pub") ∷ []) (K ++ (N ++ B)) pub_word
    (before_then (keyword i.body) (i.name.text ++ body_text i.body) K (N ++ B) (kind_reads i.body)
    (read_then i.name.text (body_text i.body) N B (name_read i.name rest.0) (body_reads i.body rest.1)))))

as_read : (a : List ℕ) (xs : List Piece) → IsBefore a xs → IsRead a xs
as_read a xs h = record { codes = h.codes; bytes = h.bytes; scalar_values = h.scalar_values; reads = λ t s. h.reads t }

-- what stands around it
around : (hashed : Bool) (doc : List ℕ) (i : ItemD) → item_text hashed doc i ≡ text_before hashed doc i ++ (declared_text i ++ text_behind hashed i)
around hashed doc i =
    by (codes "\n") (if is_long i then long_line else []) (doc_comment doc) (derive_line hashed (holds i)) (attribute_lines [] i.attrs) (codes "pub ") (keyword i.body) i.name.text (body_text i.body) (text_behind hashed i)
  where
    by : (n l d s a p k m b r : List ℕ) → n ++ (l ++ (d ++ ((s ++ (a ++ (p ++ (k ++ m)))) ++ (b ++ r)))) ≡ (n ++ (l ++ (d ++ s))) ++ ((a ++ (p ++ (k ++ (m ++ b)))) ++ r)
    by n l d s a p k m b r = simp append_assoc

pub items_keep_tokens : ItemsKeepTokens
items_keep_tokens = record {
  parts = around;
  tokens = λ i h o.
      let A : List Tok → Type 0 = Are in
      read_has (declared_text i) (P (shown_item true false i)) (as_read (declared_text i) (P (shown_item true false i)) (item_reads i (subst A (bare_tokens i h) o)));
  printing = λ i h. shown_is_printed i ∙ sym (bare_tokens i h);
}
