pub mod ConnectionEnds
pub mod Invariant
pub mod Refusals
pub mod FoldedStreams
pub mod NonLinking
pub mod Bystanders
pub mod AcceptByOthers
pub mod CallsOfOthers
pub mod Effects
pub mod EffectsKeep
pub mod TakenSymbols
pub mod EffectsByWay
pub mod ReceiveCalls
pub mod SendCalls
pub mod DisconnectCalls
pub mod ReleaseCalls
pub mod ConnectCalls
pub mod OtherCalls
pub mod EachCall
pub mod OneStep
pub mod UnderWay
pub mod AlongHistory
pub mod BegunByAccept
pub mod Histories
pub mod FollowedScripts
pub mod BytesAreNeeded
pub mod Pieces
mod OwnEntry
mod Singles
mod Worlds
mod Exchanges
mod Next
mod Streams
mod Calls
mod ReceiveSteps
mod Lives
mod Entries
mod Ends
