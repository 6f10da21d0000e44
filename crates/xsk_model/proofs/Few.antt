-- A configuration has few ports, queues and applications.
use Rattle.std.proofs.Common.{◌≡◌, ◌/◌, ◌≤◌, ◌⊎◌, ⊎_elim, arith}
use Rattle.std.proofs.Math.Nat.{mul-le-mul}
use Rattle.xsk_model.specs.Config.{Config, IsConfig}
use Rattle.xsk_model.specs.Marks.{apps_of}

pub ports_few : (c : Config) → IsConfig c → c.ports ≤ 4
ports_few c h = ⊎_elim (λ (e : c.ports ≡ 2). omega arith) (λ (e : c.ports ≡ 4). omega arith) h.ports

pub queues_few : (c : Config) → IsConfig c → c.queues ≤ 4
queues_few c h = ⊎_elim (λ (e : c.queues ≡ 1). omega arith) (λ (e : (c.queues ≡ 2) ⊎ (c.queues ≡ 4)). ⊎_elim (λ (f : c.queues ≡ 2). omega arith) (λ (f : c.queues ≡ 4). omega arith) e) h.queues

pub apps_few : (c : Config) → IsConfig c → apps_of c ≤ 8
apps_few c h = mul-le-mul {n₁ = c.ports / 2} {m₁ = c.queues} {n₂ = 2} {m₂ = 4} (omega (arith, ports_few c h)) (queues_few c h)
