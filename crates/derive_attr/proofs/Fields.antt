-- What the attributes of a field say, from the values of their slots.
use Rattle.std.proofs.Common.{◌≡◌, ℕ, List, [], ◌++◌, Bool, false, ap, ◌∙◌, codes}
use Rattle.std.specs.Prelude.{Option, unwrap_or}
use Rattle.token_trees.specs.Token.{Name}
use Rattle.syntax_trees.specs.Syntax.{LifetimeD, ExprPathD}
use Rattle.syntax_trees.specs.Item.{FieldD}
use Rattle.attr_parts.specs.Names.{MultiNameD}
use Rattle.attr_parts.specs.Values.{DefaultD}
use Rattle.attr_defs.specs.Acts.{ActD, SettingD, Values, values_of, added, told}
use Rattle.attr_defs.specs.Looks.{default_of, predicates_of, function_of, lifetimes_of, look, is_set}
use Rattle.attr_defs.specs.Members.{FieldAttrs, field_default, reader_of, held_by, field_name, handed_on, field_attrs, field_diagnostics}
use Rattle.attr_defs.specs.Owners.{whole, written, read, of_field}
use Rattle.attr_defs.specs.Rows.{all_acts}
use Rattle.attr_defs.specs.Texts.{lexed}
use Rattle.derive_attr.specs.FieldView.{field_by}
use Rattle.derive_attr.proofs.Variants.{named}

abbrev pub made : Values → MultiNameD → DefaultD → Option ExprPathD → List LifetimeD → Bool → FieldAttrs
made v n d w ls t = record {
  name = n;
  skip_serializing = is_set (v (whole (codes "skip_serializing")));
  skip_deserializing = is_set (v (whole (codes "skip_deserializing")));
  skip_serializing_if = look function_of (v (whole (codes "skip_serializing_if")));
  default = d;
  serialize_with = look function_of (v (whole (codes "serialize_with")));
  deserialize_with = w;
  ser_bound = look predicates_of (v (written (codes "bound")));
  de_bound = look predicates_of (v (read (codes "bound")));
  borrowed_lifetimes = ls;
  getter = look function_of (v (whole (codes "getter")));
  flatten = is_set (v (whole (codes "flatten")));
  transparent = t;
}

-- the lifetimes that are asked for
abbrev pub asked_of : Values → List LifetimeD
asked_of v = unwrap_or (look lifetimes_of (v (whole (codes "borrow")))) []

-- what is decided of the values, beside them
pub same_attrs : (f : FieldD) (own : Name) (container : DefaultD) (private : Name) (v : Values) (names : List Name) (n : MultiNameD) (d : DefaultD) (w : Option ExprPathD) (ls : List LifetimeD)
    → n ≡ named v names own
    → d ≡ field_default (look default_of (v (whole (codes "default")))) (is_set (v (whole (codes "skip_deserializing")))) container
    → w ≡ reader_of (look function_of (v (whole (codes "deserialize_with")))) (asked_of v) private f.ty
    → ls ≡ held_by (asked_of v) f.ty
    → made v n d w ls false ≡ field_by f own container private v names
same_attrs f own container private v names n d w ls hn hd hw hl =
    let b = field_by f own container private v names in
    ap (λ x. made v x d w ls false) hn
    ∙ ap (λ x. made v b.name x w ls false) hd
    ∙ ap (λ x. made v b.name b.default x ls false) hw
    ∙ ap (λ x. made v b.name b.default b.deserialize_with x false) hl

-- what acts do where the field has that name
abbrev acts_by : FieldD → Option SettingD → Name → List ActD
acts_by f borrow own = handed_on f own borrow ++ all_acts lexed (of_field f own) f.attrs

-- what is kept of the field's acts is what its attributes say
pub from_settings : (f : FieldD) (index : ℕ) (borrow : Option SettingD) (container : DefaultD) (private own : Name) (v : Values) (names : List Name) (acts : List ActD) (x : FieldAttrs)
    → own ≡ field_name f index
    → acts ≡ handed_on f own borrow ++ all_acts lexed (of_field f own) f.attrs
    → v ≡ values_of acts
    → names ≡ added acts
    → x ≡ field_by f own container private v names
    → x ≡ field_attrs lexed f index borrow container private
from_settings f index borrow container private own v names acts x ho ha hv hn hx =
    hx
    ∙ ap (λ (u : Values). field_by f own container private u names) hv
    ∙ ap (λ ns. field_by f own container private (values_of acts) ns) hn
    ∙ ap (λ xs. field_by f own container private (values_of xs) (added xs)) ha
    ∙ ap (λ o. field_by f o container private (values_of (acts_by f borrow o)) (added (acts_by f borrow o))) ho

-- and what they tell is what is told of them
pub field_told : (f : FieldD) (index : ℕ) (borrow : Option SettingD) (own : Name) (acts : List ActD)
    → own ≡ field_name f index
    → acts ≡ handed_on f own borrow ++ all_acts lexed (of_field f own) f.attrs
    → told acts ≡ field_diagnostics lexed f index borrow
field_told f index borrow own acts ho ha = ap told ha ∙ ap (λ o. told (acts_by f borrow o)) ho
