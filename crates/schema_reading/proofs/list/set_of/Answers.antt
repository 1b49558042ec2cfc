use Rattle.std.proofs.Common.{◌∷◌, [], map, string_bytes, sym, ap, ◌∙◌}
use Rattle.std.proofs.lemmas.List.{map-append}
use Rattle.schema_reading.proofs.Lists.{with_names, name_set_is, with_last, inserted}
use Rattle.schema_reading.proofs.list.set_of.Goals as goal

pub loop-text-init : goal.loop-text-init
loop-text-init c =
    name_set_is (map string_bytes c.args.texts.items) ∙ ap (λ ks. with_names (map string_bytes c.args.texts.items) (map string_bytes ks)) (sym c.new-names.ensures.empty)

pub loop-text-preserved : goal.loop-text-preserved
loop-text-preserved c =
    c.loop-text.invariant
    ∙ ap (λ ts. with_names (map string_bytes ts) (map string_bytes c.loop-text.names.keys)) c.in-Some.ensures.items
    ∙ ap (λ ns. with_names ns (map string_bytes c.loop-text.names.keys)) (map-append string_bytes c.pop.new.self.items (c.in-Some.text ∷ []))
    ∙ with_last (map string_bytes c.pop.new.self.items) (string_bytes c.in-Some.text) (map string_bytes c.loop-text.names.keys)
    ∙ ap (with_names (map string_bytes c.pop.new.self.items)) (sym (inserted c.loop-text.names.keys c.in-Some.text) ∙ ap (map string_bytes) (sym c.in_ok-insert.ensures.keys))
