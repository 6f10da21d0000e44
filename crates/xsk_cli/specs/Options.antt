-- The options of the commands: what each is called, and what value it takes. This project's own.
use Rattle.std.specs.Prelude.{codes, List, [], ◌∷◌, ◌++◌}
use Rattle.xsk_args.specs.Meaning.{Key, a_number, a_program, nothing, one_of}

-- ---- those that make the configuration

abbrev pub ports : Key
ports = (codes "ports", a_number)

abbrev pub queues : Key
queues = (codes "queues", a_number)

abbrev pub sockets : Key
sockets = (codes "sockets", a_number)

abbrev pub frames : Key
frames = (codes "frames", a_number)

abbrev pub chunk : Key
chunk = (codes "chunk", a_number)

abbrev pub headroom : Key
headroom = (codes "headroom", a_number)

abbrev pub rx : Key
rx = (codes "rx", a_number)

abbrev pub tx : Key
tx = (codes "tx", a_number)

abbrev pub fill : Key
fill = (codes "fill", a_number)

abbrev pub comp : Key
comp = (codes "comp", a_number)

abbrev pub empty : Key
empty = (codes "empty", a_number)

abbrev pub close : Key
close = (codes "close", a_number)

abbrev pub sg : Key
sg = (codes "sg", nothing)

abbrev pub wakeup : Key
wakeup = (codes "wakeup", nothing)

abbrev pub of_layout : List Key
of_layout = ports ∷ queues ∷ sockets ∷ frames ∷ chunk ∷ headroom ∷ rx ∷ tx ∷ fill ∷ comp ∷ empty ∷ close ∷ sg ∷ wakeup ∷ []

-- ---- those of a run

abbrev pub gen : Key
gen = (codes "gen", a_number)

abbrev pub prog : Key
prog = (codes "prog", a_program)

abbrev pub wire : Key
wire = (codes "wire", one_of (codes "wait" ∷ codes "drop" ∷ []))

abbrev pub after : Key
after = (codes "after", a_number)

abbrev pub pcapng : Key
pcapng = (codes "pcapng", nothing)

abbrev pub of_run : List Key
of_run = gen ∷ prog ∷ wire ∷ after ∷ pcapng ∷ []

-- ---- those of a run in rounds

abbrev pub order : Key
order = (codes "order", a_number)

abbrev pub mangle : Key
mangle = (codes "mangle", a_number)

abbrev pub journal : Key
journal = (codes "journal", nothing)

abbrev pub why : Key
why = (codes "why", nothing)

abbrev pub of_rounds : List Key
of_rounds = order ∷ mangle ∷ journal ∷ why ∷ []

-- ---- those of a run on threads

abbrev pub hands : Key
hands = (codes "hands", a_number)

abbrev pub of_threads : List Key
of_threads = hands ∷ []

-- ---- those of each command

abbrev pub of_simulate : List Key
of_simulate = of_layout ++ of_run ++ of_rounds

abbrev pub of_forward : List Key
of_forward = of_layout ++ of_run ++ of_threads

abbrev pub of_audit : List Key
of_audit = of_layout ++ why ∷ []
