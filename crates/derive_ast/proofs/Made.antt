-- Members and items, made of their parts.
use Rattle.std.proofs.Common.{◌≡◌, ℕ, ◌++◌, List, None, map, ap, ◌∙◌, subst, append_assoc}
use Rattle.std.specs.Prelude.{Option}
use Rattle.token_trees.specs.Token.{Name}
use Rattle.syntax_trees.specs.Syntax.{MemberD}
use Rattle.syntax_trees.specs.Item.{FieldD, FieldsD, VariantD}
use Rattle.attr_parts.specs.declared.rename.RenameAllRules.{RenameAllRules}
use Rattle.attr_parts.specs.Diagnostics.{DiagnosticD, TellsFront}
use Rattle.attr_parts.specs.Rules.{rules_or}
use Rattle.attr_parts.specs.Values.{DefaultD}
use Rattle.attr_parts.proofs.Steps.{tells_more, tells_later}
use Rattle.attr_defs.specs.Acts.{SettingD}
use Rattle.attr_defs.specs.Container.{ContainerAttrs}
use Rattle.attr_defs.specs.Members.{VariantAttrs, variant_attrs, FieldAttrs, field_attrs}
use Rattle.attr_defs.specs.Renames.{Meaning, variant_renamed, field_renamed}
use Rattle.attr_defs.specs.Texts.{Lexing}
use Rattle.container_defs.specs.declared.style.Style.{Style}
use Rattle.container_defs.specs.Container.{ReadField, ReadVariant, read_struct}
use Rattle.container_defs.specs.Model.{fields_told_from, fields_told}
use Rattle.container_defs.specs.Reading.{style_of, each_of, member_by, field_of, fields_from, fields_of, variant_of, name_field, name_variant}

-- ---- fields

abbrev field_made : FieldD → MemberD → FieldAttrs → ReadField
field_made f m a = record { member = m; attrs = a; ty = f.ty; original = f }

pub same_field : (lexing : Lexing) (private : Name) (container : DefaultD) (borrow : Option SettingD) (index : ℕ) (f : FieldD) (variant_name field_name : Meaning) (rules : RenameAllRules) (m : MemberD) (own attrs : FieldAttrs)
    → m ≡ member_by f.name index
    → own ≡ field_attrs lexing f index borrow container private
    → attrs ≡ field_renamed field_name rules own
    → field_made f m attrs ≡ name_field variant_name field_name rules (field_of lexing private container borrow index f)
same_field lexing private container borrow index f variant_name field_name rules m own attrs hm ho ha =
    ap (λ x. field_made f x attrs) hm ∙ ap (λ x. field_made f (member_by f.name index) x) (ha ∙ ap (field_renamed field_name rules) ho)

-- ---- variants

abbrev variant_made : VariantD → Name → VariantAttrs → Style → List ReadField → ReadVariant
variant_made v n a s fs = record { name = n; attrs = a; style = s; fields = fs; original = v }

module _ (lexing : Lexing) (private : Name) (variant_name field_name : Meaning) (c : ContainerAttrs) (v : VariantD) where
  abbrev read_by : VariantAttrs → RenameAllRules → DefaultD → List FieldD → List ReadField
  read_by own rules default trees = map (name_field variant_name field_name rules) (fields_from lexing private default own.borrow 0 trees)

  abbrev renamed_by : VariantAttrs → VariantAttrs
  renamed_by own = variant_renamed variant_name c.rename_all own

  pub same_variant : (n : Name) (own attrs : VariantAttrs) (s : Style) (fs : List ReadField) (naming rules inner outer : RenameAllRules) (default : DefaultD) (trees : List FieldD)
      → n ≡ v.name
      → own ≡ variant_attrs lexing v
      → naming ≡ c.rename_all
      → attrs ≡ variant_renamed variant_name naming own
      → s ≡ style_of v.fields
      → inner ≡ own.rename_all
      → outer ≡ c.rename_all_fields
      → rules ≡ rules_or inner outer
      → default ≡ c.default
      → trees ≡ each_of v.fields
      → fs ≡ read_by own rules default trees
      → variant_made v n attrs s fs ≡ name_variant variant_name field_name c (variant_of lexing private c.default v)
  same_variant n own attrs s fs naming rules inner outer default trees hn ho hg ha hs hi hu hr hd ht hf =
      ap (λ x. variant_made v x attrs s fs) hn
      ∙ ap (λ x. variant_made v v.name x s fs) (ha ∙ ap (λ r. variant_renamed variant_name r own) hg)
      ∙ ap (λ x. variant_made v v.name (renamed_by own) x fs) hs
      ∙ ap (λ x. variant_made v v.name (renamed_by own) (style_of v.fields) x) hf
      ∙ ap (λ x. variant_made v v.name (renamed_by own) (style_of v.fields) (read_by own x default trees)) (hr ∙ ap (λ r. rules_or r outer) hi ∙ ap (λ r. rules_or own.rename_all r) hu)
      ∙ ap (λ x. variant_made v v.name (renamed_by own) (style_of v.fields) (read_by own (rules_or own.rename_all c.rename_all_fields) x trees)) hd
      ∙ ap (λ x. variant_made v v.name (renamed_by own) (style_of v.fields) (read_by own (rules_or own.rename_all c.rename_all_fields) c.default x)) ht
      ∙ ap (λ x. variant_made v v.name (renamed_by x) (style_of v.fields) (read_by x (rules_or x.rename_all c.rename_all_fields) c.default (each_of v.fields))) ho

  -- what is told of the fields
  pub same_told : (own : VariantAttrs) (trees : List FieldD) → own ≡ variant_attrs lexing v → trees ≡ each_of v.fields → fields_told_from lexing own.borrow 0 trees ≡ fields_told lexing (variant_attrs lexing v).borrow v.fields
  same_told own trees ho ht =
      ap (λ a. fields_told_from lexing a.borrow 0 trees) ho
      ∙ ap (λ fs. fields_told_from lexing (variant_attrs lexing v).borrow 0 fs) ht

-- ---- structs

pub same_struct : (lexing : Lexing) (private : Name) (variant_name field_name : Meaning) (c : ContainerAttrs) (form : FieldsD) (s : Style) (fs : List ReadField) (rules : RenameAllRules) (default : DefaultD) (trees : List FieldD)
    → s ≡ style_of form
    → rules ≡ c.rename_all
    → default ≡ c.default
    → trees ≡ each_of form
    → fs ≡ map (name_field variant_name field_name rules) (fields_from lexing private default None 0 trees)
    → read_struct s fs ≡ read_struct (style_of form) (map (name_field variant_name field_name c.rename_all) (fields_of lexing private c.default None form))
same_struct lexing private variant_name field_name c form s fs rules default trees hs hr hd ht hf =
    ap (λ x. read_struct x fs) hs
    ∙ ap (λ x. read_struct (style_of form) x) hf
    ∙ ap (λ x. read_struct (style_of form) (map (name_field variant_name field_name x) (fields_from lexing private default None 0 trees))) hr
    ∙ ap (λ x. read_struct (style_of form) (map (name_field variant_name field_name c.rename_all) (fields_from lexing private x None 0 trees))) hd
    ∙ ap (λ x. read_struct (style_of form) (map (name_field variant_name field_name c.rename_all) (fields_from lexing private c.default None 0 x))) ht

-- ---- what is told, in three parts

pub told_last : (old mid new a b c last : List DiagnosticD) → mid ≡ old ++ (a ++ b) → new ≡ mid ++ last → last ≡ c → new ≡ old ++ (a ++ (b ++ c))
told_last old mid new a b c last hm hn hl =
    hn ∙ ap (λ l. l ++ last) hm ∙ append_assoc old (a ++ b) last ∙ ap (λ l. old ++ l) (append_assoc a b last) ∙ ap (λ l. old ++ (a ++ (b ++ l))) hl

pub front_last : (old mid new a b c last : List DiagnosticD) → mid ≡ old ++ (a ++ b) → TellsFront mid new last → last ≡ c → TellsFront old new (a ++ (b ++ c))
front_last old mid new a b c last hm hn hl =
    let t = tells_later old mid new (a ++ b) last hm hn in
    subst (λ l. TellsFront old new l) (append_assoc a b last ∙ ap (λ l. a ++ (b ++ l)) hl) t

pub front_first : (old new a b c : List DiagnosticD) → TellsFront old new (a ++ b) → TellsFront old new (a ++ (b ++ c))
front_first old new a b c t = subst (λ l. TellsFront old new l) (append_assoc a b c) (tells_more old new (a ++ b) c t)

pub told_both : (old mid new a b last : List DiagnosticD) → mid ≡ old ++ a → new ≡ mid ++ last → last ≡ b → new ≡ old ++ (a ++ b)
told_both old mid new a b last hm hn hl = hn ∙ ap (λ l. l ++ last) hm ∙ append_assoc old a last ∙ ap (λ l. old ++ (a ++ l)) hl

pub front_both : (old mid new a b last : List DiagnosticD) → mid ≡ old ++ a → TellsFront mid new last → last ≡ b → TellsFront old new (a ++ b)
front_both old mid new a b last hm hn hl = subst (λ l. TellsFront old new (a ++ l)) hl (tells_later old mid new a last hm hn)
