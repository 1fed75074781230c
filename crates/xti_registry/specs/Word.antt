-- The word of an address, by which its chain is found.
use Rattle.std.specs.Prelude.{◌+◌, ◌-◌, ◌*◌, ◌%◌, ◌^◌, ℕ, List, [], ◌∷◌, length, drop}
use Rattle.xti_base.specs.Kinds.{prov_number}
use Rattle.xti_base.specs.declared.kinds.Prov.{Prov}
use Rattle.xti_model.specs.World.{Binding}
use Rattle.xti_registry.specs.declared.binding.TheConstants.{CHAINS, FACTOR, MIXED}

-- a word with further bytes mixed in
abbrev pub mixed : ℕ → List ℕ → ℕ
mixed word [] = word
mixed word (b ∷ bs) = mixed (((word * FACTOR) % 2 ^ 32 + b) % 2 ^ 32) bs

-- the word of a provider's address: of the last bytes, in which addresses differ mostly
abbrev pub word_of : Prov → List ℕ → ℕ
word_of prov address = mixed (prov_number prov) (drop (length address - MIXED) address)

-- the number of the chain of a word
abbrev pub chain_of : ℕ → ℕ
chain_of word = word % CHAINS

-- the number of the chain in which a binding stands
abbrev pub binding_chain : Binding → ℕ
binding_chain b = chain_of (word_of b.prov b.address)
