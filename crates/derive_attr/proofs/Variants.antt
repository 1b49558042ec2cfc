-- What the attributes of a variant say, from the values of their slots.
use Rattle.std.proofs.Common.{◌≡◌, List, [], ap, ◌∙◌, map, codes}
use Rattle.std.specs.Prelude.{unwrap_or}
use Rattle.token_trees.specs.Token.{Name}
use Rattle.syntax_trees.specs.Item.{VariantD}
use Rattle.attr_parts.specs.Names.{MultiNameD, attr_name}
use Rattle.attr_defs.specs.Acts.{ActD, Values, values_of, added}
use Rattle.attr_defs.specs.Container.{plain_name}
use Rattle.attr_defs.specs.Looks.{name_of, predicates_of, function_of, look, is_set, rules_at}
use Rattle.attr_defs.specs.Members.{VariantAttrs, name_set, variant_from}
use Rattle.attr_defs.specs.Owners.{whole, written, read}
use Rattle.derive_attr.specs.MemberViews.{names_of}
use Rattle.attr_acts.specs.declared.performing.Settings.{Settings}
use Rattle.attr_acts.specs.Kept.{values_in}

abbrev pub named : Values → List Name → Name → MultiNameD
named v ns own = record {
  serialize = unwrap_or (look name_of (v (written (codes "rename")))) own;
  serialize_renamed = is_set (v (written (codes "rename")));
  deserialize = unwrap_or (look name_of (v (read (codes "rename")))) own;
  deserialize_renamed = is_set (v (read (codes "rename")));
  aliases = name_set [] ns;
}

abbrev pub made : Values → MultiNameD → VariantAttrs
made v n = record {
  name = n;
  rename_all = rules_at v (codes "rename_all");
  ser_bound = look predicates_of (v (written (codes "bound")));
  de_bound = look predicates_of (v (read (codes "bound")));
  skip_deserializing = is_set (v (whole (codes "skip_deserializing")));
  skip_serializing = is_set (v (whole (codes "skip_serializing")));
  other = is_set (v (whole (codes "other")));
  serialize_with = look function_of (v (whole (codes "serialize_with")));
  deserialize_with = look function_of (v (whole (codes "deserialize_with")));
  borrow = v (whole (codes "borrow"));
  untagged = is_set (v (whole (codes "untagged")));
}

-- what is kept of acts is what they say
pub same_attrs : (d : VariantD) (acts : List ActD) (s : Settings) (n : MultiNameD)
    → n ≡ names_of s (plain_name d.name)
    → values_in s ≡ values_of acts
    → map attr_name s.names.items ≡ added acts
    → made (values_in s) n ≡ variant_from d acts
same_attrs d acts s n hn hv hs =
    let own = plain_name d.name in
    ap (λ x. made (values_in s) x) (hn ∙ ap (λ ns. named (values_in s) ns own) hs)
    ∙ ap (λ (w : Values). made w (named w (added acts) own)) hv
