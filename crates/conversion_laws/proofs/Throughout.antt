-- References at one value, and what holds throughout a schema.
use Rattle.std.proofs.Common.{ℕ, List}
use Rattle.schema_defs.specs.Schema.{Schema, boolean, object, Same, no_same, same_value, Lists, Named, MaybeSchema, no_schema, the_schema, MaybeSchemas, no_list, the_list, Schemas, no_more, schema}
use Rattle.schema_defs.proofs.Spare.{Refs, RefsSame, RefsLists, RefsMaybe, RefsAll}
use Rattle.conversion_laws.specs.Keeping.{Throughout, ThroughoutSame, ThroughoutList, ThroughoutMaybe, ThroughoutAll}

-- nothing is asked of the keywords of lists, nor of members
abbrev pub AnyLists : Lists → Type 0
AnyLists ls = Unit {0}

abbrev pub AnyNamed : Named → Type 0
AnyNamed ns = Unit {0}

module _ (P : List ℕ → Type 0) where
  mutual
    pub to-throughout : (s : Schema) → Refs P s → Throughout P AnyLists AnyNamed s
    to-throughout (boolean b) h = tt
    to-throughout (object p ss ls ns) h = (h.0, tt, tt, same-to ss h.1)

    pub same-to : (ss : Same) → RefsSame P ss → ThroughoutSame P AnyLists AnyNamed ss
    same-to no_same h = tt
    same-to (same_value all any one none c) h = (list-to all h.0, list-to any h.1, list-to one h.2, maybe-to none h.3)

    list-to : (m : MaybeSchemas) → RefsLists P m → ThroughoutList P AnyLists AnyNamed m
    list-to no_list h = tt
    list-to (the_list ss) h = all-to ss h

    maybe-to : (m : MaybeSchema) → RefsMaybe P m → ThroughoutMaybe P AnyLists AnyNamed m
    maybe-to no_schema h = tt
    maybe-to (the_schema s) h = to-throughout s h

    all-to : (ss : Schemas) → RefsAll P ss → ThroughoutAll P AnyLists AnyNamed ss
    all-to no_more h = tt
    all-to (schema s ss) h = (to-throughout s h.0, all-to ss h.1)

  module _ (L : Lists → Type 0) (N : Named → Type 0) where
    mutual
      pub refs-of : (s : Schema) → Throughout P L N s → Refs P s
      refs-of (boolean b) h = tt
      refs-of (object p ss ls ns) h = (h.0, same-of ss h.3)

      same-of : (ss : Same) → ThroughoutSame P L N ss → RefsSame P ss
      same-of no_same h = tt
      same-of (same_value all any one none c) h = (list-of all h.0, list-of any h.1, list-of one h.2, maybe-of none h.3)

      list-of : (m : MaybeSchemas) → ThroughoutList P L N m → RefsLists P m
      list-of no_list h = tt
      list-of (the_list ss) h = all-of ss h

      maybe-of : (m : MaybeSchema) → ThroughoutMaybe P L N m → RefsMaybe P m
      maybe-of no_schema h = tt
      maybe-of (the_schema s) h = refs-of s h

      all-of : (ss : Schemas) → ThroughoutAll P L N ss → RefsAll P ss
      all-of no_more h = tt
      all-of (schema s ss) h = (refs-of s h.0, all-of ss h.1)
