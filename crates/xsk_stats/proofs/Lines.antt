-- How a text grows.
use Rattle.std.proofs.Common.{◌≡◌, ◌∙◌, refl, sym, ap, ℕ, suc, ◌+◌, List, [], ◌∷◌, ◌++◌, append_assoc, arith}
use Rattle.std.specs.Prelude.{flat_map, OnOk, Result, Ok, Err}
use denote.Ref.{Bor}
use Rattle.std.specs.List.{range_with_len}
use Rattle.std.proofs.lemmas.List.{flat_map_more}
use Rattle.xsk_model.specs.Config.{Config, pair_at, classes_of}
use Rattle.xsk_model.specs.declared.config.PairInfo.{PairInfo}
use Rattle.xsk_model.proofs.Counting.{range-push}
use Rattle.xsk_machine.specs.declared.figures.DriverFigures.{DriverFigures}
use Rattle.xsk_machine.specs.declared.figures.Figures.{Figures}
use Rattle.xsk_stats.specs.Report.{numbered, put_behind, setting_line, calls_line, driver_line, pair_line, socket_lines, lines_of, total_line, stranded_line, totals_of, figures_at, report_text}
use Rattle.xsk_stats.specs.declared.totals.Statistics.{Statistics}

-- one piece after another
pub after : (t a b u v : List ℕ) → u ≡ t ++ a → v ≡ u ++ b → v ≡ t ++ (a ++ b)
after t a b u v e h = h ∙ ap (λ (text : List ℕ). text ++ b) e ∙ append_assoc t a b

-- words with their numbers behind a text that ends in a piece
behind : (t a : List ℕ) (numbers : List (Bor (List ℕ) × ℕ)) → put_behind (t ++ a) numbers ≡ t ++ put_behind a numbers
behind t a [] = refl
behind t a (number ∷ numbers) =
    ap (λ (text : List ℕ). put_behind text numbers) (append_assoc t a (numbered number.0.now number.1)) ∙ behind t (a ++ numbered number.0.now number.1) numbers

after_piece : (t a u v : List ℕ) (numbers : List (Bor (List ℕ) × ℕ)) → u ≡ t ++ a → v ≡ put_behind u numbers → v ≡ t ++ put_behind a numbers
after_piece t a u v numbers e h = h ∙ ap (λ (text : List ℕ). put_behind text numbers) e ∙ behind t a numbers

-- and what ends them
pub line_after : (t a b u v w : List ℕ) (numbers : List (Bor (List ℕ) × ℕ)) → u ≡ t ++ a → v ≡ put_behind u numbers → w ≡ v ++ b → w ≡ t ++ (put_behind a numbers ++ b)
line_after t a b u v w numbers e h k = after t (put_behind a numbers) b v w (after_piece t a u v numbers e h) k

pub on_ok : {A E : Type 0} (r : Result A E) (P Q : Type 0) → (P → Q) → OnOk r P → OnOk r Q
on_ok (Ok a) P Q f h = f h
on_ok (Err e) P Q f h = tt

one_more : (n : ℕ) → range_with_len 0 (n + 1) ≡ range_with_len 0 n ++ n ∷ []
one_more n =
    let on : n + 1 ≡ suc n = omega arith in
    let last : 0 + n ≡ n = omega arith in
    ap (range_with_len 0) on ∙ range-push 0 n ∙ ap (λ k. range_with_len 0 n ++ k ∷ []) last

-- one line more, by its number
pub line_more : (f : ℕ → List ℕ) (n : ℕ) (t u v : List ℕ) → u ≡ t ++ flat_map f (range_with_len 0 n) → v ≡ u ++ f n → v ≡ t ++ flat_map f (range_with_len 0 (n + 1))
line_more f n t u v e h =
    h ∙ ap (λ (text : List ℕ). text ++ f n) e ∙ flat_map_more f t (range_with_len 0 n) n ∙ ap (λ (ns : List ℕ). t ++ flat_map f ns) (sym (one_more n))

-- the lines of the first pairs
abbrev pub lines_to : (PairInfo → DriverFigures → List ℕ) → Config → List DriverFigures → ℕ → List ℕ
lines_to line c drivers n = flat_map (λ pair. line (pair_at c.pairs pair) (figures_at drivers pair)) (range_with_len 0 n)

pub pair_more : (line : PairInfo → DriverFigures → List ℕ) (c : Config) (drivers : List DriverFigures) (n : ℕ) (p : PairInfo) (d : DriverFigures) (t u v : List ℕ)
    → p ≡ pair_at c.pairs n → d ≡ figures_at drivers n → u ≡ t ++ lines_to line c drivers n → v ≡ u ++ line p d → v ≡ t ++ lines_to line c drivers (n + 1)
pair_more line c drivers n p d t u v one of e h =
    line_more (λ pair. line (pair_at c.pairs pair) (figures_at drivers pair)) n t u v e
    (h ∙ ap (λ (x : PairInfo). u ++ line x d) one ∙ ap (λ (x : DriverFigures). u ++ line (pair_at c.pairs n) x) of)

-- all parts, from an empty text on
pub whole : (c : Config) (figures : Figures) (classes : ℕ) (total : Statistics) (t0 t1 t2 t3 t4 t5 t6 t7 : List ℕ) → classes ≡ classes_of c → total ≡ totals_of classes figures.drivers
    → t0 ≡ [] → t1 ≡ t0 ++ setting_line c figures.wire → t2 ≡ t1 ++ calls_line figures.calls → t3 ≡ t2 ++ lines_of driver_line c figures.drivers
    → t4 ≡ t3 ++ lines_of (λ pair driver. pair_line pair driver.counters) c figures.drivers → t5 ≡ t4 ++ lines_of (λ pair driver. socket_lines classes pair driver.counters) c figures.drivers
    → t6 ≡ t5 ++ total_line total → t7 ≡ t6 ++ stranded_line figures.mangled total.stranded → t7 ≡ report_text c figures
whole c figures classes total t0 t1 t2 t3 t4 t5 t6 t7 same sum none e1 e2 e3 e4 e5 e6 e7 =
    let a = setting_line c figures.wire in
    let b = calls_line figures.calls in
    let d = lines_of driver_line c figures.drivers in
    let p = lines_of (λ pair driver. pair_line pair driver.counters) c figures.drivers in
    let s : ℕ → List ℕ = λ n. lines_of (λ pair driver. socket_lines n pair driver.counters) c figures.drivers in
    let two = after t0 a b t1 t2 e1 e2 in
    let three = after t0 (a ++ b) d t2 t3 two e3 in
    let four = after t0 (a ++ b ++ d) p t3 t4 three e4 in
    let five = after t0 (a ++ b ++ d ++ p) (s classes) t4 t5 four e5 in
    let six = after t0 (a ++ b ++ d ++ p ++ s classes) (total_line total) t5 t6 five e6 in
    let seven = after t0 (a ++ b ++ d ++ p ++ s classes ++ total_line total) (stranded_line figures.mangled total.stranded) t6 t7 six e7 in
    let ends : Statistics → List ℕ = λ x. total_line x ++ stranded_line figures.mangled x.stranded in
    let front : ℕ → List ℕ = λ n. a ++ b ++ d ++ p ++ s n in
    let joined : a ++ b ++ d ++ p ++ s classes ++ total_line total ++ stranded_line figures.mangled total.stranded ≡ front classes ++ ends total = append_assoc (front classes) (total_line total) (stranded_line figures.mangled total.stranded) in
    let parted : front (classes_of c) ++ ends (totals_of (classes_of c) figures.drivers) ≡ report_text c figures = sym (append_assoc (front (classes_of c)) (total_line (totals_of (classes_of c) figures.drivers)) (stranded_line figures.mangled (totals_of (classes_of c) figures.drivers).stranded)) in
    seven ∙ ap (λ (t : List ℕ). t ++ (a ++ b ++ d ++ p ++ s classes ++ total_line total ++ stranded_line figures.mangled total.stranded)) none ∙ joined
    ∙ ap (λ (x : Statistics). front classes ++ ends x) sum
    ∙ ap (λ (n : ℕ). front n ++ ends (totals_of n figures.drivers)) same ∙ parted
