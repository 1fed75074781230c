pub mod Places
pub mod Only
pub mod Local
pub mod Others
pub mod Touched
mod ChangeKinds
pub mod KeptCells
pub mod ChangedEndpoints
mod SteadyUpdates
pub mod Effects
mod TableRows
pub mod ClearedRows
mod FollowsTable
pub mod Opening
mod StatesOfConnections
mod LeavingPlans
mod OtherStates
pub mod TableWalk
pub mod Initialised
pub mod TouchedAgain
pub mod TouchedCells
pub mod KnownPlaces
pub mod BlockingRows
pub mod WaitingForWants
pub mod GoodArguments
pub mod LinkedHistory
pub mod OwnEntries
mod histories
pub mod KeptEndpoints
pub mod StepWays
pub mod AcceptEnds
pub mod IndicationNumbers
pub mod OneChange
pub mod EndpointUpdates
pub mod ListenerUpdates
pub mod RequestUpdates
pub mod SeveralCells
pub mod OpeningAndClosing
pub mod UnseenChanges
pub mod CallsKeepLinks
pub mod AcceptCall
pub mod Bindings
pub mod Steps
pub mod RequestHistories
mod OldestDisconnect
mod ChangedCells
pub mod PassedRows
mod BindingFilters
mod PlaceAndSwitch
pub mod CountingBindings
mod SwitchUpdates
pub mod States
pub mod ShortLists
pub mod Updates
pub mod ReleaseAndDatagramUpdates
pub mod QuietChanges
mod Registering
mod OwnCalls
mod ShowCalls
mod AcrossCalls
mod SendCalls
mod SoundAcceptCall
pub mod MatchedNext
pub mod MatchedAfterCalls
pub mod PeersStayThere
pub mod PeersAfterCalls
pub mod Beginning
pub mod SoundSteps
pub mod Lent
pub mod BoundAddresses
pub mod FewEndsAfterCalls
pub mod FewEndsHistories
mod Counterexamples
pub mod SoundGives
pub mod LinkedEnds
pub mod PairedAfterCalls
pub mod ProvidersStay
pub mod ToldOutcomes
pub mod ProgressOfSteps
pub mod ShortReplies
mod NeverAnswered
mod ByteLists
mod ByteWorlds
mod AnsweredOptions
mod ByteReplies
pub mod ByteHistories
pub mod InForm
