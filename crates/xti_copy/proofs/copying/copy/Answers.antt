use Rattle.std.proofs.Common.{List, [], ◌∙◌, sym, subst}
use Rattle.std.proofs.lemmas.List.{append-nil}
use Rattle.xti_model.specs.declared.entry.Entry.{Entry}
use Rattle.xti_model.specs.History.{Legal}
use Rattle.xti_model.specs.Profile.{usual}
use Rattle.xti_laws_streams.specs.Copying.{copied}
use Rattle.xti_laws_streams.specs.CopyLaws.{IsNextEntry}
use Rattle.xti_copy.proofs.copying.copy.Goals as goal

pub make_calls-requires-clause-at : goal.make_calls-requires-clause-at
make_calls-requires-clause-at g c κs within = record {
  providers = c.in_ok-rider.ensures.providers ∙ c.usual.ensures.values;
  entries = c.in_ok-rider.ensures.entries;
  free = c.in_ok-rider.ensures.free;
}

pub make_calls-requires-clause-comes : goal.make_calls-requires-clause-comes
make_calls-requires-clause-comes g c κs within =
    let input = c.args.input.now in
    let bytes = c.slices_are_bytes.ensures in record {
      rest = [];
      legal = subst (λ (es : List Entry). Legal usual es) (sym (append-nil (copied input))) (c.copies_are_legal.ensures.legal input bytes);
      only = subst (λ (es : List Entry). IsNextEntry es) (sym (append-nil (copied input))) (c.copies_are_legal.ensures.only input bytes);
    }

pub returns-in-Ok-clause-entries : goal.returns-in-Ok-clause-entries
returns-in-Ok-clause-entries g c = c.into_entries.ensures ∙ c.in-Ok.ensures.at.entries

pub returns-in-Ok-clause-bytes : goal.returns-in-Ok-clause-bytes
returns-in-Ok-clause-bytes g c = c.slices_are_bytes.ensures

pub returns-in-Err-clause-bytes : goal.returns-in-Err-clause-bytes
returns-in-Err-clause-bytes g c = c.slices_are_bytes.ensures
