-- A conversion from what a newtype holds, for the rule that goes with it.
use Rattle.std.specs.Prelude.{ℕ, List, [], ◌∷◌, ◌++◌, Option, Some, None, string_bytes, bytes_eq, codes, if◌then◌else◌}
use Rattle.syntax_trees.specs.Syntax.{TyD}
use Rattle.syntax_trees.specs.Item.{FieldD, FieldsD, named_fields, unnamed_fields, unit_fields, BodyD, struct_body, enum_body, union_body, ItemD}
use Rattle.conversion_table.specs.declared.conversions.Rule.{Rule}
use Rattle.conversion_table.specs.declared.conversions.Constraint.{Constraint}
use Rattle.module_texts.specs.Tokens.{type_text}
use Rattle.module_texts.specs.Rules.{rule_lines}

-- ---- the type that a newtype holds

abbrev pub place_of : List FieldD → Option TyD
place_of [] = None
place_of (f ∷ fs) = Some f.ty

abbrev pub first_place : FieldsD → Option TyD
first_place (named_fields fs) = None
first_place (unnamed_fields fs) = place_of fs
first_place unit_fields = None

abbrev pub inner_of : BodyD → Option TyD
inner_of (struct_body fs at) = first_place fs
inner_of (enum_body vs at) = None
inner_of (union_body fs at) = None

-- ---- constraints, which stand in the order of the items, at most one for an item

abbrev pub own_rule : List Constraint → List ℕ → Option Rule
own_rule [] n = None
own_rule (c ∷ cs) n = if bytes_eq (string_bytes c.item) n then Some c.rule else None

abbrev pub left_behind : List Constraint → List ℕ → List Constraint
left_behind [] n = []
left_behind (c ∷ cs) n = if bytes_eq (string_bytes c.item) n then cs else c ∷ cs

-- ---- the text

abbrev pub impl_text : List ℕ → TyD → Rule → List ℕ
impl_text n t r =
    codes "\nimpl ::std::convert::TryFrom<"
    ++ (type_text t
    ++ (codes "> for "
    ++ (n
    ++ (codes " {\n    type Error = ::std::string::String;\n\n    fn try_from(value: "
    ++ (type_text t
    ++ (codes ") -> ::std::result::Result<Self, Self::Error> {\n"
    ++ (rule_lines r
    ++ codes "        ::std::result::Result::Ok(Self(value))\n    }\n}\n")))))))

abbrev pub impl_around : List ℕ → Option TyD → Rule → List ℕ
impl_around n None r = []
impl_around n (Some t) r = impl_text n t r

abbrev pub impl_for : ItemD → Rule → List ℕ
impl_for i r = impl_around i.name.text (inner_of i.body) r

abbrev pub impl_where : ItemD → Option Rule → List ℕ
impl_where i None = []
impl_where i (Some r) = impl_for i r

-- where the first constraint is the item's
abbrev pub impl_of : ItemD → List Constraint → List ℕ
impl_of i cs = impl_where i (own_rule cs i.name.text)
