-- Worked examples of what the rows of a conversion tree merge.
use Rattle.std.specs.Prelude.{◌≡◌, [], ◌∷◌, true, false, Some, None, codes}
use Rattle.schema_defs.specs.Location.{Location}
use Rattle.schema_defs.specs.Schema.{Schema, boolean}
use Rattle.schema_defs.specs.Build.{typed}
use Rattle.entry_defs.specs.Entry.{any_entry}
use Rattle.merge_defs.specs.Outcome.{Note, narrowed, of_clash, unsupported, conditional, Outcome, fault, never, answer}
use Rattle.merge_defs.specs.Samples.{read}
use Rattle.merge_walks.specs.Carried.{on_walk}
use Rattle.convert_walks.specs.Tree.{Node, State, too_few_levels, too_many_steps, converted}
use Rattle.document_merges.specs.Definitions.{begun_at}
use Rattle.document_merges.specs.Merges.{refused, stands, merges_in}

abbrev pub here : Location
here = codes "a" ∷ []

abbrev pub texts : Schema
texts = read (typed "string")

abbrev pub clash : Note
clash = record { way = narrowed; kind = of_clash }

-- a definition whose row ends so
abbrev pub ended : State → Node
ended t = record { spot = begun_at here (Some (codes "a")); schema = texts; entry = any_entry; state = t }

abbrev pub merging : Outcome Schema → Node
merging o = ended (converted (Some o))

pub record MergeExamples : Type 0 where
  pub none_merges : merges_in (ended too_few_levels ∷ ended too_many_steps ∷ ended (converted None) ∷ []) ≡ []
  pub a_fault : merges_in (merging (fault (unsupported conditional)) ∷ []) ≡ refused (unsupported conditional) ∷ []
  -- never stands as false where the schema stood
  pub a_never : merges_in (merging (never (clash ∷ [])) ∷ []) ≡ stands (clash ∷ []) (Some (record { spot = begun_at here None; schema = boolean false })) ∷ []
  -- what is answered stands on its own walk, without a name
  pub an_answer :
      merges_in (merging (answer [] (on_walk (here ∷ here ∷ []) texts)) ∷ [])
      ≡ stands [] (Some (record { spot = record { handed = None; path = here; walk = here ∷ []; in_made = true }; schema = on_walk (here ∷ here ∷ []) texts })) ∷ []
  pub in_order : merges_in (merging (fault (unsupported conditional)) ∷ ended (converted None) ∷ merging (never []) ∷ [])
      ≡ refused (unsupported conditional) ∷ stands [] (Some (record { spot = begun_at here None; schema = boolean false })) ∷ []
