-- What the attributes of a container say, from the values of their slots.
use Rattle.std.proofs.Common.{◌≡◌, List, ◌++◌, Bool, ap, sym, ◌∙◌, append_assoc, codes, subst}
use Rattle.std.specs.Prelude.{unwrap_or}
use Rattle.std.specs.List.{list_any}
use Rattle.attr_parts.specs.declared.values.Identifier.{Identifier}
use Rattle.attr_parts.specs.Diagnostics.{DiagnosticD, TellsFront}
use Rattle.attr_parts.specs.Names.{MultiNameD, multi_name}
use Rattle.attr_parts.specs.Values.{DefaultD, no_default, default_view, TagD, tag_view}
use Rattle.attr_parts.proofs.Steps.{tells_more, tells_later}
use Rattle.syntax_trees.specs.Item.{ItemD}
use Rattle.attr_defs.specs.Acts.{ActD, Values, values_of, told}
use Rattle.attr_defs.specs.Container.{ContainerAttrs, plain_name, container_names, plain_at, tag_of, identifier_of, is_packing, is_non_exhaustive, container_from, container_acts, container_diagnostics, tag_told, identifier_told}
use Rattle.attr_defs.specs.Looks.{default_of, predicates_of, ty_of, path_of, look, is_set, rules_at}
use Rattle.attr_defs.specs.Owners.{whole, written, read}
use Rattle.attr_defs.specs.Texts.{lexed}
use Rattle.derive_attr.specs.ContainerView.{container_view}
use Rattle.derive_attr.specs.declared.container.Container.{Container}
use Rattle.attr_acts.specs.Kept.{values_in}

abbrev made : Values → MultiNameD → DefaultD → TagD → Bool → Identifier → Bool → ContainerAttrs
made v n d t p f e = record {
  name = n;
  rename_all = rules_at v (codes "rename_all");
  rename_all_fields = rules_at v (codes "rename_all_fields");
  transparent = is_set (v (whole (codes "transparent")));
  deny_unknown_fields = is_set (v (whole (codes "deny_unknown_fields")));
  default = d;
  ser_bound = look predicates_of (v (written (codes "bound")));
  de_bound = look predicates_of (v (read (codes "bound")));
  tag = t;
  type_from = look ty_of (v (whole (codes "from")));
  type_try_from = look ty_of (v (whole (codes "try_from")));
  type_into = look ty_of (v (whole (codes "into")));
  remote = look path_of (v (whole (codes "remote")));
  is_packed = p;
  identifier = f;
  serde_path = look path_of (v (whole (codes "crate")));
  expecting = plain_at v (codes "expecting");
  non_exhaustive = e;
}

-- what is decided of the values, beside them
pub same_attrs : (i : ItemD) (c : Container)
    → multi_name c.name ≡ container_names (values_in c.settings) (plain_name i.name)
    → default_view c.default ≡ unwrap_or (look default_of (values_in c.settings (whole (codes "default")))) no_default
    → tag_view c.tag ≡ tag_of (values_in c.settings)
    → c.identifier ≡ identifier_of i.body (values_in c.settings)
    → c.is_packed ≡ list_any is_packing i.attrs
    → c.non_exhaustive ≡ list_any is_non_exhaustive i.attrs
    → container_view c ≡ container_from i (values_in c.settings)
same_attrs i c hn hd ht hf hp he =
    let v = values_in c.settings in
    let d = unwrap_or (look default_of (v (whole (codes "default")))) no_default in
    ap (λ n. made v n (default_view c.default) (tag_view c.tag) c.is_packed c.identifier c.non_exhaustive) hn
    ∙ ap (λ x. made v (container_names v (plain_name i.name)) x (tag_view c.tag) c.is_packed c.identifier c.non_exhaustive) hd
    ∙ ap (λ x. made v (container_names v (plain_name i.name)) d x c.is_packed c.identifier c.non_exhaustive) ht
    ∙ ap (λ x. made v (container_names v (plain_name i.name)) d (tag_of v) x c.identifier c.non_exhaustive) hp
    ∙ ap (λ x. made v (container_names v (plain_name i.name)) d (tag_of v) (list_any is_packing i.attrs) x c.non_exhaustive) hf
    ∙ ap (λ x. made v (container_names v (plain_name i.name)) d (tag_of v) (list_any is_packing i.attrs) (identifier_of i.body v) x) he

-- what is told of each attribute, and then of all together
pub told_whole : (old mid new a b c : List DiagnosticD) → mid ≡ old ++ a → new ≡ mid ++ (b ++ c) → new ≡ old ++ (a ++ b ++ c)
told_whole old mid new a b c e f = f ∙ ap (λ l. l ++ (b ++ c)) e ∙ append_assoc old a (b ++ c) ∙ ap (λ l. old ++ l) (sym (append_assoc a b c))

-- where memory runs out among the attributes, and behind them
pub front_first : (old new a b c : List DiagnosticD) → TellsFront old new a → TellsFront old new (a ++ b ++ c)
front_first old new a b c t = tells_more old new (a ++ b) c (tells_more old new a b t)

pub front_last : (old mid new a b c : List DiagnosticD) → mid ≡ old ++ a → TellsFront mid new (b ++ c) → TellsFront old new (a ++ b ++ c)
front_last old mid new a b c e t =
    let P : List DiagnosticD → Type 0 = λ l. TellsFront old new l in
    subst P (sym (append_assoc a b c)) (tells_later old mid new a (b ++ c) e t)

-- the same, where the values are those that are kept of the attributes' acts
pub told_by_settings : (i : ItemD) (v : Values) (acts : List ActD) (old mid new : List DiagnosticD) → v ≡ values_of acts → acts ≡ container_acts lexed i
    → mid ≡ old ++ told acts → new ≡ mid ++ (tag_told i.body v ++ identifier_told i.body v) → new ≡ old ++ container_diagnostics lexed i
told_by_settings i v acts old mid new hv ha m n =
    let all = container_acts lexed i in
    told_whole old mid new (told all) (tag_told i.body (values_of all)) (identifier_told i.body (values_of all)) (m ∙ ap (λ x. old ++ told x) ha)
    (n ∙ ap (λ (u : Values). mid ++ (tag_told i.body u ++ identifier_told i.body u)) (hv ∙ ap values_of ha))

pub front_by_settings : (i : ItemD) (v : Values) (acts : List ActD) (old mid new : List DiagnosticD) → v ≡ values_of acts → acts ≡ container_acts lexed i
    → mid ≡ old ++ told acts → TellsFront mid new (tag_told i.body v ++ identifier_told i.body v) → TellsFront old new (container_diagnostics lexed i)
front_by_settings i v acts old mid new hv ha m t =
    let all = container_acts lexed i in
    let P : Values → Type 0 = λ u. TellsFront mid new (tag_told i.body u ++ identifier_told i.body u) in
    front_last old mid new (told all) (tag_told i.body (values_of all)) (identifier_told i.body (values_of all)) (m ∙ ap (λ x. old ++ told x) ha) (subst P (hv ∙ ap values_of ha) t)
