-- Small items and their texts.
use Rattle.std.specs.Prelude.{◌≡◌, ℕ, List, [], ◌∷◌, Bool, true, false, Option, Some, None, codes}
use Rattle.token_trees.specs.Token.{Name, site}
use Rattle.syntax_trees.specs.Syntax.{LifetimeD, TyD, ty_path, ty_reference, PathD, path, SegmentD, segment, no_arguments, bound_lifetime, no_qself, Segments, end_segments, more_segments}
use Rattle.syntax_trees.specs.Item.{MetaD, meta_path, meta_list, FieldD, named_fields, unnamed_fields, unit_fields, VariantD, ParamD, param_lifetime, PredicateD, predicate_ty, BodyD, struct_body, enum_body, ItemD}
use Rattle.syntax_printing.specs.Print.{sign, keyword}
use Rattle.item_texts.specs.Text.{item_text_of}

abbrev pub name_of : List ℕ → Name
name_of x = record { text = x; span = site }

abbrev pub segments : List (List ℕ) → Segments
segments [] = end_segments
segments (x ∷ xs) = more_segments (segment (name_of x) no_arguments) (segments xs)

abbrev pub local : List ℕ → PathD
local x = path false (segments (x ∷ []))

abbrev pub plain : List ℕ → TyD
plain x = ty_path no_qself (local x)

abbrev pub field : List ℕ → TyD → FieldD
field x t = record { attrs = []; name = Some (name_of x); ty = t }

abbrev pub place : TyD → FieldD
place t = record { attrs = []; name = None; ty = t }

abbrev pub serde : List ℕ → MetaD
serde x = meta_list (local (codes "serde")) (keyword x ∷ []) site

abbrev pub item : List MetaD → List ℕ → BodyD → ItemD
item ms x b = record { attrs = ms; name = name_of x; params = []; predicates = []; body = b }

abbrev pub life : LifetimeD
life = record { name = name_of (codes "a"); span = site }

abbrev pub Texts : Type 0
Texts =
    (item_text_of (item (serde (codes "deny_unknown_fields") ∷ []) (codes "Root")
    (struct_body (named_fields (field (codes "id") (plain (codes "i64"))
    ∷ field (codes "name") (ty_path no_qself (path true (segments (codes "std" ∷ codes "string" ∷ codes "String" ∷ []))))
    ∷ [])) site))
    ≡ codes "# [ serde ( deny_unknown_fields ) ] struct Root { id : i64 , name : :: std :: string :: String , }")
    × (item_text_of (item (serde (codes "transparent") ∷ []) (codes "Type0") (struct_body (unnamed_fields (place (plain (codes "i64")) ∷ [])) site)) ≡ codes "# [ serde ( transparent ) ] struct Type0 ( i64 , ) ;")
    × (item_text_of (item [] (codes "Unit") (struct_body unit_fields site)) ≡ codes "struct Unit ;")
    × (item_text_of (item [] (codes "Way") (enum_body (
    record { attrs = meta_path (local (codes "near")) ∷ []; name = name_of (codes "On"); fields = unnamed_fields (place (plain (codes "u8")) ∷ []) }
    ∷ record { attrs = []; name = name_of (codes "Off"); fields = unit_fields }
    ∷ []) site))
    ≡ codes "enum Way { # [ near ] On ( u8 , ) , Off , }")
    × (item_text_of (record {
      attrs = [];
      name = name_of (codes "Lent");
      params = param_lifetime life ∷ [];
      predicates = predicate_ty (plain (codes "u8")) (bound_lifetime life ∷ []) ∷ [];
      body = struct_body (unnamed_fields (place (ty_reference (Some life) false (plain (codes "u8"))) ∷ [])) site;
    })
    ≡ codes "struct Lent < 'a > ( & 'a u8 , ) where u8 : 'a ;")
