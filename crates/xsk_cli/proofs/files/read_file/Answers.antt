use Rattle.std.proofs.Common.{rules, ◌≡◌, ◌++◌, ◌∷◌, [], List, ℕ, map, sym, ap, subst, Vec, Global, arith}
use Rattle.xsk_pcapng.specs.Pcapng.{IsCause}
use Rattle.xsk_cli.specs.Judged.{bytes_of}
use Rattle.xsk_cli.proofs.Filing.{file_refusal, only_one}
use Rattle.xsk_cli.proofs.Judging.{text_at}
use Rattle.xsk_cli.proofs.files.read_file.Goals as goal

pub returns : goal.returns
returns c =
    let all = c.args.inputs.items in
    let bytes = bytes_of (map (λ bytes. bytes.items) all) 0 in
    let own = c.unwrap-bytes.result in
    let last : all ≡ c.pop.new.self.items ++ own ∷ [] = rw c.unwrap-bytes.ensures at c.pop.ensures.items in
    let at : own.items ≡ bytes =
    text_at (λ (b : Vec ℕ Global). b.items) all 0 own own.items (omega (arith, c.requires)) (ap (λ (b : Vec ℕ Global). b.items) (sym (only_one all c.pop.new.self.items own c.requires last))) in
    let is : IsCause c.args.ports bytes c.in-Err.back.cause = subst (λ (b : List ℕ). IsCause c.args.ports b c.in-Err.back.cause) at c.in-Err.ensures.cause in
    record { found = tt; listed = tt; failed = file_refusal c.args.ports bytes c.in-Err.back.cause is (search rules) }
