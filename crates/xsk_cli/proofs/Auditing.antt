-- What the words of an audit ask for, and what is told of a journal that isn't legal.
use Rattle.std.proofs.Common.{◌≡◌, ℕ, List, [], ◌∷◌, ◌++◌, None, Some, length, refl, ap, subst, ◌∙◌, append_assoc}
use Rattle.xsk_model.specs.Config.{Config}
use Rattle.xsk_socket.specs.declared.layout.Layout.{Layout}
use Rattle.xsk_socket.specs.Regular.{regular_of}
use Rattle.xsk_audit.specs.Lines.{journal_of, lines_of}
use Rattle.xsk_audit.specs.Telling.{AreLegal, IsVerdict}
use Rattle.xsk_audit.specs.Why.{TellsWhy}
use Rattle.xsk_audit.specs.declared.auditing.Verdicts.{Verdicts}
use Rattle.xsk_audit.specs.declared.auditing.Verdicts.TheVariants.{Legal, NotLegal}
use Rattle.xsk_audit.specs.declared.why.Stopped.{Stopped}
use Rattle.xsk_audit.proofs.Agreeing.{why-is-of-verdict}
use Rattle.xsk_audit.proofs.OneVerdict.{one-verdict}
use Rattle.xsk_why.specs.Held.{callers_text}
use Rattle.xsk_why.specs.Rings.{rings_text}
use Rattle.xsk_cli.specs.Line.{line_of}
use Rattle.xsk_cli.specs.Options.{why}
use Rattle.xsk_cli.specs.Steps.{IsReasonText}
use Rattle.xsk_cli.specs.declared.status.Status.TheVariants.{NotLegal as EndsNotLegal}
use Rattle.xsk_args.specs.Meaning.{Meaning}
use Rattle.xsk_args.specs.Words.{Text}
use Rattle.xsk_cli.specs.Words.{Plan, audit_plan_by, is_said, layout_by, without_files}
use Rattle.xsk_cli.specs.declared.words.Work.TheVariants.{Audit}

-- the plan of words that name one file
abbrev pub one_plan : Meaning → Text → Plan
one_plan said file = record { inputs = file ∷ []; outputs = []; work = Audit (without_files (layout_by said)) (is_said said why) }

-- others name none or several
pub none_by : (said : Meaning) (files : List Text) → ((file : Text) → files ≡ file ∷ [] → ⊥) → audit_plan_by said files ≡ None
none_by said [] other = refl
none_by said (file ∷ []) other = absurd (other file refl)
none_by said (file ∷ more ∷ files) other = refl

-- ---- a journal that isn't legal

-- no journal is legal and isn't
pub never_both : (c : Config) (text : List ℕ) (line : ℕ) → AreLegal c (journal_of (lines_of text)) → IsVerdict c text (NotLegal line) → ⊥
never_both c text line legal verdict =
    let n = length (journal_of (lines_of text)) in
    let same : ◌≡◌ {A = Verdicts} (Legal n) (NotLegal line) = one-verdict c text (Legal n) (NotLegal line) (legal, refl) verdict in
    cc same

same_line : (n m : ℕ) → ◌≡◌ {A = Verdicts} (NotLegal n) (NotLegal m) → n ≡ m
same_line n m e = cc

-- the reason is that of the verdict's line
pub reasoned : (layout : Layout) (c : Config) (text before after all : List ℕ) (line : ℕ) (stop : Stopped) → c ≡ regular_of layout → before ≡ line_of (EndsNotLegal line) → IsVerdict (regular_of layout) text (NotLegal line)
    → TellsWhy c text before after (Some stop) → all ≡ after ++ (rings_text stop.object.config stop.object.rings ++ callers_text stop.object.config stop.object.log) → IsReasonText layout text line all
reasoned layout c text before after all line stop config first verdict tells shown =
    let told = tells.1.0 in
    let there = rings_text stop.object.config stop.object.rings ++ callers_text stop.object.config stop.object.log in
    let is : stop.object.config ≡ regular_of layout = tells.0 ∙ config in
    let found : IsVerdict (regular_of layout) text (NotLegal stop.misfit.line) =
    subst (λ (k : Config). IsVerdict k text (NotLegal stop.misfit.line)) is (why-is-of-verdict stop.object text stop.misfit told tells.1.1) in (
      told ++ there,
      record {
        object = stop.object;
        config = is;
        misfit = stop.misfit;
        line_is = same_line stop.misfit.line line (one-verdict (regular_of layout) text (NotLegal stop.misfit.line) (NotLegal line) found verdict);
        reason = told;
        why = tells.1.1;
        told_is = refl;
      },
      shown ∙ ap (λ (t : List ℕ). t ++ there) (tells.1.2 ∙ ap (λ (t : List ℕ). t ++ told) first) ∙ append_assoc (line_of (EndsNotLegal line)) told there,
    )
