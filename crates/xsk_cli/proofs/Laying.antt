-- Captures that are written where the lists stand, and texts that are copied.
use Rattle.std.proofs.Common.{◌≡◌, ℕ, zero, suc, ◌+◌, ◌<◌, ◌≤◌, ◌*◌, List, [], ◌∷◌, length, get_or, take, drop, map, sym, ap, subst, ◌∙◌, arith}
use Rattle.std.specs.Prelude.{All}
use Rattle.std.specs.List.{range_with_len}
use Rattle.std.proofs.lemmas.List.{drop_all, drop_more, get_or-map, length-map}
use Rattle.std.proofs.lemmas.List.Elements.{All-nil}
use Rattle.xsk_pcap.specs.Written.{IsWritable, written}
use Rattle.xsk_cli.specs.Outcome.{capture_of}
use Rattle.xsk_cli.specs.Steps.{CanBeLaid, outputs_in}
use Rattle.xsk_cli.specs.declared.texts.Outputs.{Outputs}
use Rattle.xsk_cli.specs.declared.texts.Outputs.TheVariants.{Copied, Laid}

-- ---- a list for each port

-- what one queue of a port sent
one_queue : (all : List (List (List ℕ))) (port : ℕ) (d : List (List ℕ)) → port < length all → take 1 (drop (port * 1) all) ≡ get_or all port d ∷ []
one_queue all port d below =
    let at : port * 1 ≡ port = omega arith in
    ap (λ (n : ℕ). take 1 (drop n all)) at ∙ ap (take 1) (drop_more all port d below)

each_writable : (all : List (List (List ℕ))) (ports : ℕ) → length all ≡ ports → ((port : ℕ) → port < ports → IsWritable (take 1 (drop (port * 1) all))) → All (λ (list : List (List ℕ)). IsWritable (list ∷ [])) all
each_writable all ports count each = λ k d below. subst IsWritable (one_queue all k d below) (each k (omega (arith, below, count)))

captures_from : (all : List (List (List ℕ))) (n count : ℕ) → n + count ≡ length all → map capture_of (drop n all) ≡ map (λ port. written (take 1 (drop (port * 1) all))) (range_with_len n count)
captures_from all n zero is = ap (map capture_of) (drop_all n all (omega (arith, is)))
captures_from all n (suc count) is =
    let below : n < length all = omega (arith, is) in
    ap (map capture_of) (drop_more all n [] below)
    ∙ ap (λ (text : List ℕ). text ∷ map capture_of (drop (n + 1) all)) (ap written (sym (one_queue all n [] below)))
    ∙ ap (λ (texts : List (List ℕ)). written (take 1 (drop (n * 1) all)) ∷ texts) (captures_from all (n + 1) count (omega (arith, is)))

captures_of_ports : (all : List (List (List ℕ))) (ports : ℕ) → length all ≡ ports → map capture_of all ≡ map (λ port. written (take 1 (drop (port * 1) all))) (range_with_len 0 ports)
captures_of_ports all ports count = captures_from all 0 ports (omega (arith, count))

-- so the captures of the lists are those of the ports, and are within the limits
pub laid_outputs : (all : List (List (List ℕ))) (ports queues : ℕ) → queues ≡ 1 → length all ≡ ports * queues → outputs_in all Laid ≡ map (λ port. written (take queues (drop (port * queues) all))) (range_with_len 0 ports)
laid_outputs all ports queues one count =
    subst (λ (q : ℕ). map capture_of all ≡ map (λ port. written (take q (drop (port * q) all))) (range_with_len 0 ports)) (sym one)
    (captures_of_ports all ports (omega (arith, count ∙ ap (λ (q : ℕ). ports * q) one)))

pub laid_writable : (all : List (List (List ℕ))) (ports queues : ℕ) → queues ≡ 1 → length all ≡ ports * queues → ((port count : ℕ) → port < ports → count ≤ queues → IsWritable (take count (drop (port * queues) all))) → CanBeLaid all Laid
laid_writable all ports queues one count writable =
    each_writable all ports (omega (arith, count ∙ ap (λ (q : ℕ). ports * q) one))
    (λ port below. subst (λ (q : ℕ). IsWritable (take 1 (drop (port * q) all))) one (writable port 1 below (omega (arith, one))))

-- ---- what is written

-- of nothing that was sent nothing is laid
pub none_laid : (outputs : Outputs) → CanBeLaid [] outputs
none_laid Laid = All-nil (λ (list : List (List ℕ)). IsWritable (list ∷ []))
none_laid (Copied texts) = tt

-- the capture of a list that is laid, which is within the limits
pub laid_known : (all : List (List (List ℕ))) (outputs : Outputs) (port : ℕ) → outputs ≡ Laid → port < length (outputs_in all outputs) → port < length all
laid_known all outputs port is known = omega (arith, subst (λ (o : Outputs). port < length (outputs_in all o)) is known, length-map all capture_of)

pub laid_here : (all : List (List (List ℕ))) (outputs : Outputs) (port : ℕ) → outputs ≡ Laid → port < length (outputs_in all outputs) → CanBeLaid all outputs → IsWritable (get_or all port [] ∷ [])
laid_here all outputs port is known can = subst (CanBeLaid all) is can port [] (laid_known all outputs port is known)

pub laid_output : (all : List (List (List ℕ))) (outputs : Outputs) (port : ℕ) → outputs ≡ Laid → port < length (outputs_in all outputs) → get_or (outputs_in all outputs) port [] ≡ capture_of (get_or all port [])
laid_output all outputs port is known =
    ap (λ (o : Outputs). get_or (outputs_in all o) port []) is ∙ get_or-map capture_of all port [] [] (laid_known all outputs port is known)
