mod SeenPlaces
mod WalkSeen
mod ChildLists
