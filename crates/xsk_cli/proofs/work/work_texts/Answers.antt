use Rattle.std.proofs.Common.{rules, ◌≡◌, ◌<◌, List, ℕ, [], length, map, get_or, sym, ap, ◌∙◌, subst}
use Rattle.std.specs.Prelude.{IfErr, IfOk}
use Rattle.std.proofs.lemmas.List.{length-map}
use Rattle.xsk_cli.specs.Judged.{bytes_of, AreShort}
use Rattle.xsk_cli.specs.Words.{most_of}
use Rattle.xsk_cli.specs.Outcome.{IsAudited, made}
use Rattle.xsk_cli.specs.Steps.{FailsAudit, MakesNone, read_by, written_in}
use Rattle.xsk_cli.specs.declared.words.Work.{Work}
use Rattle.xsk_cli.proofs.Judging.{text_at}
use Rattle.xsk_cli.proofs.Making.{audit_made, audit_makes, made_outcome}
use Rattle.xsk_cli.proofs.work.work_texts.Goals as goal

pub returns-in-Audit-clause-failed : goal.returns-in-Audit-clause-failed
returns-in-Audit-clause-failed c =
    let bytes : List (List ℕ) = map (λ bytes. bytes.items) c.args.inputs.items in
    let layout = c.in-Audit.layout in
    let why = c.in-Audit.why in
    let known : 0 < length c.args.inputs.items = search rules in
    let item : c.index.result.now ≡ get_or c.args.inputs.items 0 c.index.result.now = search rules in
    let text_is : c.as_slice.result.now ≡ bytes_of bytes 0 =
    text_at (λ bytes. bytes.items) c.args.inputs.items 0 c.index.result.now c.as_slice.result.now known (c.as_slice.ensures.value ∙ ap (λ bytes. bytes.items) item) in
    let fails : IfErr c.audit_texts.result (FailsAudit why layout (bytes_of bytes 0)) = subst (λ t. IfErr c.audit_texts.result (FailsAudit why layout t)) text_is c.audit_texts.ensures.failed in
    let within : AreShort (most_of c.args.work.now) bytes (length bytes) =
    subst (AreShort (most_of c.args.work.now) bytes) (sym (length-map c.args.inputs.items (λ bytes. bytes.items))) c.requires.within in
    subst (λ (w : Work). IfErr c.audit_texts.result (MakesNone w bytes)) (sym c.in-Audit.is)
    (audit_makes c.audit_texts.result layout why bytes (subst (λ (w : Work). AreShort (most_of w) bytes (length bytes)) c.in-Audit.is within) fails)

pub returns-in-Audit-clause-made : goal.returns-in-Audit-clause-made
returns-in-Audit-clause-made c =
    let bytes : List (List ℕ) = map (λ bytes. bytes.items) c.args.inputs.items in
    let layout = c.in-Audit.layout in
    let why = c.in-Audit.why in
    let known : 0 < length c.args.inputs.items = search rules in
    let item : c.index.result.now ≡ get_or c.args.inputs.items 0 c.index.result.now = search rules in
    let text_is : c.as_slice.result.now ≡ bytes_of bytes 0 =
    text_at (λ bytes. bytes.items) c.args.inputs.items 0 c.index.result.now c.as_slice.result.now known (c.as_slice.ensures.value ∙ ap (λ bytes. bytes.items) item) in
    let within : AreShort (most_of c.args.work.now) bytes (length bytes) =
    subst (AreShort (most_of c.args.work.now) bytes) (sym (length-map c.args.inputs.items (λ bytes. bytes.items))) c.requires.within in
    audit_made c.audit_texts.result c.args.work.now layout why bytes c.in-Audit.is within
    (subst (λ t. IfOk c.audit_texts.result (λ texts. IsAudited layout t (made (written_in [] texts)))) text_is c.audit_texts.ensures.made)

pub returns-in-Generate-clause-made : goal.returns-in-Generate-clause-made
returns-in-Generate-clause-made c =
    let bytes : List (List ℕ) = map (λ bytes. bytes.items) c.args.inputs.items in
    let none : length bytes ≡ 0 = length-map c.args.inputs.items (λ bytes. bytes.items) ∙ c.requires.count ∙ ap read_by c.in-Generate.is in
    made_outcome c.args.work.now c.in-Generate.number bytes _ c.in-Generate.is none c.in_ok-generated_texts-in-Generate.ensures.made
