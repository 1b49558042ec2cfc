-- How items that are merged by place end.
use Rattle.std.proofs.Common.{◌≡◌, ℕ, List, [], ◌∷◌, ◌++◌, Bool, true, false, ◌&&◌, append-nil, refl, sym, ap, ◌∙◌}
use Rattle.std.specs.Prelude.{Ok, Err, nat_lt, if◌then◌else◌}
use Rattle.schema_defs.specs.Schema.{ListRules, Schema, schemas}
use Rattle.merge_defs.specs.Outcome.{Note, Outcome, never, answer, noted, mapped, never_unless, less_than, of_clash}
use Rattle.merge_defs.specs.Arrays.{End, at_clash, clash_at, least_items, nothing_more, stands}
use Rattle.merge_steps.specs.declared.stop.Stop.TheVariants.{Never}
use Rattle.merge_steps.specs.Ends.{Ends}
use Rattle.merge_lists.specs.declared.merged.MergedPlaces.{MergedPlaces}
use Rattle.merge_lists.specs.Plans.{merged_view, put_front}

pub put_nothing : (ss : List Schema) (e : End) → put_front ss (nothing_more e) ≡ record { items = schemas ss; end = e }
put_nothing ss e = ap (λ (l : List Schema). record { items = schemas l; end = e }) (append-nil ss)

module _ (join : Schema → Schema → Outcome Schema) (array : Bool) (c : ListRules) (k : ℕ) (ss : List Schema) where
  chosen : (b : Bool) → nat_lt k (least_items c.min_items) ≡ b → mapped (put_front ss) (clash_at join array c k) ≡ mapped (put_front ss) (if b then never_unless (array && stands c.min_items) of_clash else answer [] (nothing_more (at_clash k)))
  chosen b e = rw e refl

  pub clash_never : (old new : List Note) → nat_lt k (least_items c.min_items) ≡ true → new ≡ old ++ (if array && stands c.min_items then [] else less_than of_clash ∷ [])
      → Ends {X = MergedPlaces} merged_view old new (mapped (put_front ss) (clash_at join array c k)) (Err Never)
  clash_never old new h e = record { told = ap (noted old) (chosen true h) ∙ ap never (sym e) }

  pub clash_stops : (ns : List Note) (m : MergedPlaces) → nat_lt k (least_items c.min_items) ≡ false → merged_view m ≡ put_front ss (nothing_more (at_clash k))
      → Ends merged_view ns ns (mapped (put_front ss) (clash_at join array c k)) (Ok m)
  clash_stops ns m h e = record { told = ap (noted ns) (chosen false h) ∙ ap (λ l. answer l (put_front ss (nothing_more (at_clash k)))) (append-nil ns) ∙ ap (answer ns) (sym e) }
